-- What numbers are written as, for examples.
use Rattle.std.specs.Prelude.{◌≡◌, ℕ, ℤ, Some, None}
use Rattle.exact.specs.Fraction.{fraction}
use Rattle.fractions.specs.declared.ratio.Ratio.{Ratio}
use Rattle.fractions.specs.Value.{value_of}

-- a/b has a value, whose terms are these
abbrev pub Written : ℤ → ℤ → ℤ → ℕ → Type 0
Written a b num den = (v : Ratio) × (value_of (fraction a b) ≡ Some v) × (v.num ≡ num) × (v.den ≡ den)

abbrev pub Unwritten : ℤ → ℤ → Type 0
Unwritten a b = value_of (fraction a b) ≡ None
