-- Sums and the value of a line over the numbers of a kind, in terms of fractions.
use Rattle.std.proofs.Common.{◌≡◌, ℕ, zero, suc, ◌↔◌, pos, refl, ap, subst}
use mathlib.Core.Path.{subst⁻¹}
use Rattle.exact.specs.Fraction.{Fraction, whole, plus, times}
use Rattle.exact.specs.Kind.{KindLaws}
use Rattle.linear.specs.Lines.{total, Satisfies}
use Rattle.linear.specs.Linear.{sum, val}
use Rattle.linear.proofs.Sums.{minus, minus_same}
use Rattle.linear.proofs.Numbers.{Number, numbers, ◌*ⁿ◌}

module _ {admits : Fraction → Type 0} {alike : Fraction → Fraction → Type 0} (𝓚 : KindLaws admits alike) where
  pub told_sum : (n : ℕ) (f : ℕ → Number 𝓚) → (sum (numbers 𝓚) n f).told ≡ total n (λ i. (f i).told)
  told_sum zero f = refl
  told_sum (suc n) f = ap (λ z. plus z (f n).told) (told_sum n f)

  -- a line's value is 0 exactly when the values meet it
  pub satisfies : (n : ℕ) (x l : ℕ → Number 𝓚) → (alike (val (numbers 𝓚) n x l).told (whole (pos 0))) ↔ Satisfies alike n (λ u. (x u).told) (λ u. (l u).told)
  satisfies n x l = (
    λ h. subst (λ z. alike z (l n).told) left_told (minus (numbers 𝓚) {a = left} {b = l n} h),
    λ h. minus_same (numbers 𝓚) {a = left} {b = l n} (subst⁻¹ (λ z. alike z (l n).told) left_told h),
  )
    where
      left : Number 𝓚
      left = sum (numbers 𝓚) n (λ u. ◌*ⁿ◌ 𝓚 (l u) (x u))

      left_told : left.told ≡ total n (λ u. times (l u).told (x u).told)
      left_told = told_sum n (λ u. ◌*ⁿ◌ 𝓚 (l u) (x u))
