-- The lines of an input: each ends with byte 10, which the last may lack.
use Rattle.std.specs.Prelude.{ℕ, ◌+◌, cond, List, [], ◌∷◌, ◌==◌}

-- b before the first line
abbrev pub before : ℕ → List (List ℕ) → List (List ℕ)
before b [] = (b ∷ []) ∷ []
before b (l ∷ ls) = (b ∷ l) ∷ ls

abbrev pub lines : List ℕ → List (List ℕ)
lines [] = []
lines (b ∷ bs) = cond (b == 10) ([] ∷ lines bs) (before b (lines bs))

-- the lines that are not empty, with their labels; the first line has label k
abbrev pub labelled : ℕ → List (List ℕ) → List (ℕ × List ℕ)
labelled k [] = []
labelled k ([] ∷ ls) = labelled (k + 1) ls
labelled k ((b ∷ l) ∷ ls) = (k, b ∷ l) ∷ labelled (k + 1) ls
