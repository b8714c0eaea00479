-- Which pairs of numbers are the terms of a value.
use Rattle.std.specs.Prelude.{◌≡◌, ℕ, ◌≤◌, ℤ, unsigned_abs}
use Rattle.std.specs.Int.{◌∣◌}

abbrev pub limit : ℕ
limit = 1000000

-- lowest terms: nothing but 1 divides both
abbrev pub OnlyOne : ℕ → ℕ → Type 0
OnlyOne m n = (k : ℕ) → (k ∣ m) × (k ∣ n) → k ≡ 1

abbrev pub LowestTerms : ℤ → ℕ → Type 0
LowestTerms num den = (1 ≤ den) × (den ≤ limit) × (unsigned_abs num ≤ limit) × OnlyOne (unsigned_abs num) den
