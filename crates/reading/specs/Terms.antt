-- The terms that a line holds.
use Rattle.std.specs.Prelude.{◌≡◌, ℕ, ◌<◌, ◌≤◌, false, List, None, MatchOption, slice_index_or}
use Rattle.reading.specs.declared.term.Term.{Term}

abbrev pub none : Term
none = record { negative = false; coefficient = 0; start = None; place = 0; number = 0 }

-- the term at index k
abbrev pub at : List Term → ℕ → Term
at ts k = slice_index_or ts k none

-- a coefficient has at most seven digits, and one without a digit is 1
abbrev pub Fair : Term → Type 0
Fair t = (t.coefficient < 10000000) × MatchOption t.start (t.coefficient ≡ 1) (λ s. 1 ≤ s)
