-- What the reader answers of a text.
use Rattle.std.specs.Prelude.{◌≡◌, ℕ, ◌+◌, ◌<◌, ◌≤◌, ◌⊎◌, List, ◌++◌, length, take, Ok, Err, Result}
use Rattle.bounded.specs.Items.{items}
use Rattle.reading.specs.declared.fault.FormFault.{FormFault}
use Rattle.reading.specs.declared.line.Line.{Line}
use Rattle.reading.specs.Form.{Meaning, IsLine}
use Rattle.reading.specs.Steps.{Outcome, means, stops}

-- some continuation of the text is a line
abbrev pub GoesOn : List ℕ → Type 0
GoesOn text = (rest : List ℕ) × (m : Meaning) × IsLine (text ++ rest) m

-- the text is no line, and c is the first column where no line goes on: every front of it that ends before c goes on,
-- and none that reaches c; where the whole text goes on, it breaks off, and c is one past its end
pub record Breaks (text : List ℕ) (c : ℕ) : Type 0 where
  pub no_line : (m : Meaning) → IsLine text m → ⊥
  pub low : 1 ≤ c
  pub high : c ≤ length text + 1
  pub before : (k : ℕ) → k < c → GoesOn (take k text)
  pub beyond : (k : ℕ) → c ≤ k → k ≤ length text → GoesOn (take k text) → ⊥

-- a text over 200 bytes is refused at column 201, whatever it holds
abbrev pub Reads : List ℕ → Outcome → Type 0
Reads text (means m) = (length text ≤ 200) × IsLine text m × ((m' : Meaning) → IsLine text m' → m ≡ m')
Reads text (stops c) = ((200 < length text) × (c ≡ 201)) ⊎ ((length text ≤ 200) × Breaks text c)

abbrev pub meaning_of : Line → Meaning
meaning_of l = record { terms = items l.terms; negative = l.negative; constant = l.constant; start = l.start }

abbrev pub told : Result Line FormFault → Outcome
told (Ok l) = means (meaning_of l)
told (Err f) = stops f.column
