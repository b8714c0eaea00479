-- Two values that tell the same number are equal.
use Rattle.std.specs.Prelude.{◌≡◌, ℕ, ◌*◌, ◌≤◌, ℤ, pos, ◌*ℤ◌, ◌≢◌, unsigned_abs}
use Rattle.std.proofs.Common.{sym, ap, ◌∙◌, arith}
use Rattle.std.proofs.lemmas.Int.{unsigned_abs-mul}
use mathlib.Core.HLevel.{is_prop→PathP}
use Rattle.std.proofs.Math.Bridge.{le_prop}
use Rattle.std.proofs.Math.Nat.{ℕ_set}
use Rattle.std.proofs.Math.IntN.{*ℤ_comm}
use Rattle.exact.specs.Fraction.{Fraction, Equal}
use Rattle.algebra.proofs.Integers.{cancel_factor}
use Rattle.fractions.specs.declared.ratio.Ratio.{Ratio}
use Rattle.fractions.specs.Lowest.{LowestTerms}
use Rattle.fractions.specs.Divides.{apart_from_only_one}
use Rattle.fractions.specs.Reduced.{lower_least}
use Rattle.fractions.specs.Value.{tells}

lowest_prop : (num : ℤ) (den : ℕ) → IsProp (LowestTerms num den)
lowest_prop num den = λ x y i. (le_prop x.0 y.0 i, le_prop x.1 y.1 i, le_prop x.2 y.2 i, λ k both. ℕ_set k 1 (x.3 k both) (y.3 k both) i)

pub same_terms : (v w : Ratio) → v.num ≡ w.num → v.den ≡ w.den → v ≡ w
same_terms v w p q = λ i. record { num = p i; den = q i; held = is_prop→PathP (λ j. LowestTerms (p j) (q j)) (λ j. lowest_prop (p j) (q j)) v.held w.held i }

-- without the signs
pub sizes : (v : Ratio) (x : Fraction) → Equal (tells v) x → unsigned_abs v.num * unsigned_abs x.bottom ≡ v.den * unsigned_abs x.top
sizes v x e = sym (unsigned_abs-mul v.num x.bottom) ∙ ap unsigned_abs e ∙ unsigned_abs-mul (pos v.den) x.top

pub flip : (v w : Ratio) → Equal (tells v) (tells w) → Equal (tells w) (tells v)
flip v w e = *ℤ_comm w.num (pos v.den) ∙ sym e ∙ *ℤ_comm v.num (pos w.den)

lower : (v w : Ratio) → Equal (tells v) (tells w) → w.den ≤ v.den
lower v w e = lower_least (unsigned_abs w.num) w.den (unsigned_abs v.num) v.den (apart_from_only_one (unsigned_abs w.num) w.den w.held.3) w.held.0 v.held.0 (sizes v (tells w) e)

pub same_dens : (v w : Ratio) → Equal (tells v) (tells w) → v.den ≡ w.den
same_dens v w e = omega (arith, lower v w e, lower w v (flip v w e))

pub not_zero : (w : Ratio) → pos w.den ≢ pos 0
not_zero w e = let d : w.den ≡ 0 = ap unsigned_abs e in omega (arith, w.held.0)

pub same_nums : (v w : Ratio) → Equal (tells v) (tells w) → v.num ≡ w.num
same_nums v w e =
    cancel_factor (pos w.den) v.num w.num (not_zero w) (*ℤ_comm (pos w.den) v.num ∙ e ∙ ap (λ (d : ℕ). pos d *ℤ w.num) (same_dens v w e))

pub unique : (v w : Ratio) → Equal (tells v) (tells w) → v ≡ w
unique v w e = same_terms v w (same_nums v w e) (same_dens v w e)
