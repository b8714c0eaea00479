-- Prime ideals of the integers, and the numbers that they make of fractions.
use Rattle.std.specs.Prelude.{◌≡◌, Bool, ℕ, ◌*◌, ◌%◌, ◌<◌, T, ℤ, pos, ◌+ℤ◌, ◌-ℤ◌, ◌*ℤ◌, neg_ℤ}
use Rattle.exact.specs.Fraction.{Fraction}

-- the integers that count as 0
pub record Prime (Z : ℤ → Type 0) : Type 0 where
  pub has_zero : Z (pos 0)
  pub has_sum : (a b : ℤ) → Z a → Z b → Z (a +ℤ b)
  pub has_neg : (a : ℤ) → Z a → Z (neg_ℤ a)
  pub has_multiple : (a b : ℤ) → Z b → Z (a *ℤ b)
  pub not_one : Z (pos 1) → ⊥
  pub prime : (a b : ℤ) → Z (a *ℤ b) → (Z a → ⊥) → Z b

abbrev pub Admits : (ℤ → Type 0) → Fraction → Type 0
Admits Z a = Z a.bottom → ⊥

abbrev pub Alike : (ℤ → Type 0) → Fraction → Fraction → Type 0
Alike Z a b = Z (a.top *ℤ b.bottom -ℤ a.bottom *ℤ b.top)

-- an ideal given by a test, so that a statement of every ideal speaks of no types
abbrev pub Tested : (ℤ → Bool) → ℤ → Type 0
Tested Z z = T (Z z)

-- 0 alone
abbrev pub Nought : ℤ → Type 0
Nought z = z ≡ pos 0

abbrev pub Multiple : ℕ → ℤ → Type 0
Multiple p z = (k : ℤ) × (z ≡ pos p *ℤ k)

-- each number from 1 to p - 1 has a reciprocal modulo p
abbrev pub Reciprocals : ℕ → Type 0
Reciprocals p = (inverse : ℕ → ℕ) × ((r : ℕ) → 0 < r → r < p → (r * inverse r) % p ≡ 1)
