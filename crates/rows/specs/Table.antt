-- A table: rows of one width, one after the other.
use Rattle.std.specs.Prelude.{ℕ, ◌+◌, ◌*◌, List, ◌++◌, take, drop}

-- the row j, as far as the table goes
abbrev pub row_of : {V : Type 0} → (width : ℕ) → List V → (j : ℕ) → List V
row_of width m j = take width (drop (j * width) m)

-- the table with another row j
abbrev pub with_row : {V : Type 0} → (width : ℕ) → List V → (j : ℕ) → List V → List V
with_row width m j w = take (j * width) m ++ (w ++ drop (j * width + width) m)
