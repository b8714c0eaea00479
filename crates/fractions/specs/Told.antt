-- The value of a number tells it, and a number without a value is told by none.
use Rattle.std.specs.Prelude.{◌≡◌, ℕ, zero, suc, ◌*◌, ◌/◌, ◌<◌, ◌≤◌, Bool, true, false, ◌&&◌, T, [], ◌∷◌, ℤ, pos, negsuc, ◌*ℤ◌, neg_ℤ, Some, None, Option, ◌≢◌, nat_le, unsigned_abs, refl}
use Rattle.std.proofs.Common.{ap, ◌∙◌, arith, le→leb}
use Rattle.exact.specs.Fraction.{Fraction, Equal}
use Rattle.algebra.specs.Prime.{Admits, Nought}
use Rattle.algebra.proofs.Integers.{integers}
use Rattle.algebra.proofs.Ideals.{ordinary_laws}
use Rattle.algebra.proofs.Solver.{var, ◌:*◌, :neg, solve}
use Rattle.fractions.specs.declared.ratio.Ratio.{Ratio}
use Rattle.fractions.specs.Lowest.{limit}
use Rattle.fractions.specs.Gcd.{gcd}
use Rattle.fractions.specs.Reduced.{lower_positive, reduced_same, reduced_least}
use Rattle.fractions.specs.Unique.{sizes, not_zero, unique}
use Rattle.fractions.specs.Value.{tells, negative, differ, signed, within, made, over, value_of}

abbrev pub Told : Fraction → Option Ratio → Type 0
Told x (Some v) = Equal (tells v) x
Told x None = (v : Ratio) → Equal (tells v) x → ⊥

pub both_within : (m d : ℕ) → 1 ≤ d → d ≤ limit → m ≤ limit → T (within m d)
unfolding within
both_within m d h k l = and (nat_le 1 d) (nat_le d limit && nat_le m limit) (le→leb 1 d h) (and (nat_le d limit) (nat_le m limit) (le→leb d limit k) (le→leb m limit l))
  where
    and : (b c : Bool) → T b → T c → T (b && c)
    and true c t u = u
    and false c t u = absurd t

-- m/n with the sign of z/q is z/q
signed_same : (z q : ℤ) (m n : ℕ) → m * unsigned_abs q ≡ n * unsigned_abs z → signed (differ (negative z) (negative q)) m *ℤ q ≡ pos n *ℤ z
signed_same (pos z) (pos q) m n e = ap pos e
signed_same (pos z) (negsuc q) m n e = solve integers (pos m ∷ pos (suc q) ∷ []) (:neg (var 0) :* :neg (var 1)) (var 0 :* var 1) refl ∙ ap pos e
signed_same (negsuc z) (pos q) m n e =
    solve integers (pos m ∷ pos q ∷ []) (:neg (var 0) :* var 1) (:neg (var 0 :* var 1)) refl ∙ ap (λ (t : ℕ). neg_ℤ (pos t)) e ∙ solve integers (pos n ∷ pos (suc z) ∷ []) (:neg (var 0 :* var 1)) (var 0 :* :neg (var 1)) refl
signed_same (negsuc z) (negsuc q) m n e = ap (λ (t : ℕ). neg_ℤ (pos t)) e

pub size_positive : (z : ℤ) → (z ≢ pos 0) → 0 < unsigned_abs z
size_positive (pos zero) f = absurd (f refl)
size_positive (pos (suc z)) f = omega arith
size_positive (negsuc z) f = omega arith

pub told : (x : Fraction) → Admits Nought x → Told x (value_of x)
unfolding value_of over made
told x f = go (within (a / gcd a b) (b / gcd a b)) (λ t. t) (λ t. t)
  where
    s : Bool
    s = differ (negative x.top) (negative x.bottom)

    a : ℕ
    a = unsigned_abs x.top

    b : ℕ
    b = unsigned_abs x.bottom

    positive : 0 < b
    positive = size_positive x.bottom f

    go : (t : Bool) (h : T t → T (within (a / gcd a b) (b / gcd a b))) → (T (within (a / gcd a b) (b / gcd a b)) → T t) → Told x (made s a b t h)
    go true h i = signed_same x.top x.bottom (a / gcd a b) (b / gcd a b) (reduced_same a b positive)
    go false h i = λ v e.
        let least = reduced_least a b positive (unsigned_abs v.num) v.den v.held.0 (sizes v x e) in
        i (both_within (a / gcd a b) (b / gcd a b) (lower_positive a b positive) (omega (arith, least.0, v.held.1)) (omega (arith, least.1, v.held.2)))

pub told_admitted : (v : Ratio) → Admits Nought (tells v)
told_admitted v = not_zero v

pub told_moved : (x y : Fraction) → Admits Nought x → Admits Nought y → Equal x y → (o : Option Ratio) → Told x o → Told y o
told_moved x y f g e (Some v) t = ordinary_laws.alike_trans (tells v) x y (told_admitted v) f g t e
told_moved x y f g e None t = λ v h. t v (ordinary_laws.alike_trans (tells v) y x (told_admitted v) g f h (ordinary_laws.alike_sym x y f g e))

pub told_once : (x : Fraction) → Admits Nought x → (o p : Option Ratio) → Told x o → Told x p → o ≡ p
told_once x f (Some v) (Some w) t u = ap Some (unique v w (ordinary_laws.alike_trans (tells v) x (tells w) (told_admitted v) f (told_admitted w) t (ordinary_laws.alike_sym (tells w) x (told_admitted w) f u)))
told_once x f (Some v) None t u = absurd (u v t)
told_once x f None (Some w) t u = absurd (t w u)
told_once x f None None t u = refl
