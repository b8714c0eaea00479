-- What is left of an input when a line is taken.
use Rattle.std.specs.Prelude.{◌≡◌, ℕ, ◌+◌, List, [], ◌∷◌, Some, None, Option}
use Rattle.std.specs.Borrow.{Bor}
use Rattle.cutting.specs.declared.lines.Lines.{Lines}
use Rattle.cutting.specs.declared.lines.Labelled.{Labelled}
use Rattle.cutting.specs.Lines.{lines, labelled}

abbrev pub left : Lines → List (List ℕ)
left l = lines l.rest.now

-- the lines that are left and not empty, with their labels
abbrev pub named : Lines → List (ℕ × List ℕ)
named l = labelled l.label (left l)

-- the first line is taken, and counted
abbrev pub Taken : Lines → Lines → Option (Bor (List ℕ)) → Type 0
Taken l l' None = (left l ≡ []) × (left l' ≡ []) × (l'.label ≡ l.label)
Taken l l' (Some r) = (left l ≡ r.now ∷ left l') × (l'.label ≡ l.label + 1)

-- the first line that is not empty is taken, with its label
abbrev pub Next : Lines → Lines → Option Labelled → Type 0
Next l l' None = (named l ≡ []) × (named l' ≡ [])
Next l l' (Some r) = named l ≡ (r.label, r.bytes.now) ∷ named l'

abbrev pub as_pair : Labelled → ℕ × List ℕ
as_pair r = (r.label, r.bytes.now)
