-- What is printed of a settled whole number is read back.
use Rattle.std.specs.Prelude.{ℕ, ◌+◌, ◌<◌, Bool, true, false, None, List, [], ◌∷◌, ◌++◌, length, ℤ, pos, negsuc, codes, decimal, unsigned_abs}
use Rattle.std.specs.Fmt.{signed_decimal}
use Rattle.reading.specs.Form.{IsLine, term_of}

-- q1 = 2, as a row shows it
abbrev pub settled : ℕ → ℤ → List ℕ
settled q z = 113 ∷ (decimal q ++ (codes " = " ++ signed_decimal z))

abbrev pub below_zero : ℤ → Bool
below_zero (pos n) = false
below_zero (negsuc n) = true

-- the column of the first digit after the equals sign
abbrev pub value_start : ℕ → ℤ → ℕ
value_start q (pos n) = length (decimal q) + 5
value_start q (negsuc n) = length (decimal q) + 6

-- the row is a line: one term, 1 times the set point, and the value
abbrev pub ReadsBack : Type 0
ReadsBack =
    (q : ℕ) (z : ℤ) → q < 10000000 → unsigned_abs z < 10000000 → IsLine (settled q z) (record { terms = term_of false 1 None 1 q ∷ []; negative = below_zero z; constant = unsigned_abs z; start = value_start q z })
