-- The number that a value tells, and the value of a number.
use Rattle.std.specs.Prelude.{◌≡◌, ℕ, zero, suc, ◌/◌, ◌<◌, ◌≤◌, Bool, true, false, not, ◌&&◌, T, ℤ, pos, negsuc, neg_ℤ, Some, None, Option, ◌==◌, nat_le, unsigned_abs, refl}
use Rattle.std.proofs.Common.{sym, subst, arith, leb→le}
use Rattle.exact.specs.Fraction.{Fraction, fraction}
use Rattle.fractions.specs.declared.ratio.Ratio.{Ratio}
use Rattle.fractions.specs.Lowest.{limit, OnlyOne, LowestTerms}
use Rattle.fractions.specs.Gcd.{gcd}
use Rattle.fractions.specs.Reduced.{reduced_lowest}

abbrev pub tells : Ratio → Fraction
tells v = fraction v.num (pos v.den)

abbrev pub negative : ℤ → Bool
negative (pos n) = false
negative (negsuc n) = true

-- whether two signs differ
abbrev pub differ : Bool → Bool → Bool
differ false t = t
differ true t = not t

abbrev pub signed : Bool → ℕ → ℤ
signed false m = pos m
signed true m = neg_ℤ (pos m)

pub abs_signed : (s : Bool) (m : ℕ) → unsigned_abs (signed s m) ≡ m
abs_signed false m = refl
abs_signed true zero = refl
abs_signed true (suc m) = refl

unfoldable pub within : ℕ → ℕ → Bool
within m d = nat_le 1 d && (nat_le d limit && nat_le m limit)

both : (b c : Bool) → T (b && c) → T b × T c
both true c t = (tt, t)
both false c t = absurd t

pub within_parts : (m d : ℕ) → T (within m d) → (1 ≤ d) × (d ≤ limit) × (m ≤ limit)
unfolding within
within_parts m d t =
    let p = both (nat_le 1 d) (nat_le d limit && nat_le m limit) t in
    let q = both (nat_le d limit) (nat_le m limit) p.1 in
    (leb→le 1 d p.0, leb→le d limit q.0, leb→le m limit q.1)

quotient_positive : (b g : ℕ) → 1 ≤ b / g → 0 < b
quotient_positive zero g h = absurd (omega arith)
quotient_positive (suc b) g h = omega arith

pub terms_lowest : (s : Bool) (a b : ℕ) → T (within (a / gcd a b) (b / gcd a b)) → LowestTerms (signed s (a / gcd a b)) (b / gcd a b)
terms_lowest s a b t =
    let p = within_parts (a / gcd a b) (b / gcd a b) t in
    let m = sym (abs_signed s (a / gcd a b)) in
    (p.0, p.1, subst (λ (n : ℕ). n ≤ limit) m p.2, subst (λ (n : ℕ). OnlyOne n (b / gcd a b)) m (reduced_lowest a b (quotient_positive b (gcd a b) p.0)))

-- a/b over the greatest common divisor with the sign s, where both parts are within the limit
unfoldable pub made : (s : Bool) (a b : ℕ) (t : Bool) → (T t → T (within (a / gcd a b) (b / gcd a b))) → Option Ratio
made s a b true h = Some (record { num = signed s (a / gcd a b); den = b / gcd a b; held = terms_lowest s a b (h tt) })
made s a b false h = None

unfoldable pub over : Bool → ℕ → ℕ → Option Ratio
over s a b = made s a b (within (a / gcd a b) (b / gcd a b)) (λ t. t)

-- the value that tells x, if one does
unfoldable pub value_of : Fraction → Option Ratio
value_of x = over (differ (negative x.top) (negative x.bottom)) (unsigned_abs x.top) (unsigned_abs x.bottom)

abbrev pub is_zero : Ratio → Bool
is_zero v = unsigned_abs v.num == 0
