-- A fraction over its greatest common divisor is in lowest terms, and lowest terms are the least.
use Rattle.std.specs.Prelude.{◌≡◌, ℕ, zero, suc, ◌*◌, ◌/◌, ◌<◌, ◌≤◌}
use Rattle.std.proofs.Common.{sym, ap, subst, ◌∙◌, arith, mul-div_cancel}
use Rattle.std.proofs.Math.Logic.{∥∥₁_elim}
use Rattle.std.specs.Int.{◌∣◌}
use Rattle.std.proofs.Math.Nat.{div-mul_cancel, mul-dvd-mul_right, dvd_of_mul-dvd-mul_right, dvd-mul_left, dvd-mul_right, pos_of_dvd_of_pos, le_of_dvd}
use Rattle.std.proofs.Math.Bridge.{le_prop}
use Rattle.fractions.specs.Lowest.{OnlyOne}
use Rattle.fractions.specs.Gcd.{gcd}
use Rattle.fractions.specs.Divides.{Apart, gcd_is, only_one_from_apart}

mul_cancel : (a b c : ℕ) → 0 < c → a * c ≡ b * c → a ≡ b
mul_cancel a b c h e = sym (mul-div_cancel a h) ∙ ap (λ (t : ℕ). t / c) e ∙ mul-div_cancel b h

-- m/n in lowest terms, and k/l the same number
module _ (m n k l : ℕ) (low : Apart m n) (n-positive : 0 < n) (l-positive : 0 < l) (same : k * n ≡ l * m) where
  lower_divides : n ∣ l
  lower_divides = low l (subst (λ (t : ℕ). n ∣ t) (same ∙ omega arith) (dvd-mul_left n k))

  pub lower_least : n ≤ l
  lower_least = le_of_dvd l-positive lower_divides

  pub upper_least : m ≤ k
  upper_least = ∥∥₁_elim lower_divides le_prop (λ w. at w.0 w.1)
    where
      at : (f : ℕ) → l ≡ n * f → m ≤ k
      at zero e = absurd (omega arith)
      at (suc f) e =
          let whole : k ≡ m * suc f = mul_cancel k (m * suc f) n n-positive (same ∙ ap (λ (t : ℕ). t * m) e ∙ omega arith) in
          omega arith

module _ (a b : ℕ) (positive : 0 < b) where
  abbrev g : ℕ
  g = gcd a b

  pub g_positive : 0 < g
  g_positive = pos_of_dvd_of_pos (gcd_is a b).second positive

  first_whole : a / g * g ≡ a
  first_whole = div-mul_cancel g (gcd_is a b).first

  second_whole : b / g * g ≡ b
  second_whole = div-mul_cancel g (gcd_is a b).second

  pub lower_positive : 0 < b / g
  lower_positive = pos_of_dvd_of_pos (subst (λ (t : ℕ). (b / g) ∣ t) second_whole (dvd-mul_right (b / g) g)) positive

  swapped : (c : ℕ) → a / g * c * g ≡ a * c
  swapped c = omega (arith, ap (λ (t : ℕ). t * c) first_whole)

  apart : Apart (a / g) (b / g)
  apart c h =
      let wide : b ∣ a * c = subst (λ (t : ℕ). t ∣ a * c) second_whole (subst (λ (t : ℕ). (b / g * g) ∣ t) (swapped c) (mul-dvd-mul_right (b / g) h g)) in
      let by_g : b ∣ g * c = (gcd_is a b).greatest b c wide (dvd-mul_right b c) in
      let turned : g * c ≡ c * g = omega arith in
      dvd_of_mul-dvd-mul_right (b / g) g_positive (subst (λ (t : ℕ). t ∣ c * g) (sym second_whole) (subst (λ (t : ℕ). b ∣ t) turned by_g))

  pub reduced_lowest : OnlyOne (a / g) (b / g)
  reduced_lowest = only_one_from_apart (a / g) (b / g) lower_positive apart

  pub reduced_same : a / g * b ≡ b / g * a
  reduced_same = omega (arith, ap (λ (t : ℕ). a / g * t) second_whole, ap (λ (t : ℕ). b / g * t) first_whole)

  -- k/l that is the same number has no part below
  pub reduced_least : (k l : ℕ) → 0 < l → k * b ≡ l * a → (b / g ≤ l) × (a / g ≤ k)
  reduced_least k l h e =
      let whole : k * (b / g) * g ≡ l * (a / g) * g = omega (arith, e, ap (λ (t : ℕ). k * t) second_whole, ap (λ (t : ℕ). l * t) first_whole) in
      let same : k * (b / g) ≡ l * (a / g) = mul_cancel (k * (b / g)) (l * (a / g)) g g_positive whole in
      (lower_least (a / g) (b / g) k l apart lower_positive h same, upper_least (a / g) (b / g) k l apart lower_positive h same)
