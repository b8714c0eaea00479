-- How an input begins.
use Rattle.std.specs.Prelude.{◌≡◌, ℕ, ◌+◌, ◌<◌, ◌≤◌, List, [], ◌∷◌, length, None, Ok, Err, Result}
use Rattle.elimination.specs.declared.fault.SheetFault.TheVariants as sheet
use Rattle.cutting.specs.declared.heading.Heading as head
use Rattle.cutting.specs.declared.heading.HeadingFault.TheVariants as heading
use Rattle.cutting.specs.declared.lines.Lines.{Lines}
use Rattle.cutting.specs.Heading.{Headed}
use Rattle.cutting.specs.Taken.{left}
use Rattle.placing.specs.declared.fault.TextFault.{TextFault}
use Rattle.placing.specs.declared.fault.TextFault.TheVariants.{Room, Form, Heading, OutsideSetPoint, TwiceSetPoint, TooLong, Sheet}

-- the heading is the first line, and nothing where the input is empty
abbrev pub first_line : List (List ℕ) → List ℕ
first_line [] = []
first_line (l ∷ ls) = l

abbrev pub after : List (List ℕ) → ℕ → ℕ
after [] k = k
after (l ∷ ls) k = k + 1

abbrev pub other_lines : List (List ℕ) → List (List ℕ)
other_lines [] = []
other_lines (l ∷ ls) = ls

-- the first line is taken, and counted if there is one
pub record FirstTaken (l l' : Lines) : Type 0 where
  pub short : length l.rest.now ≤ 16384
  pub others : left l' ≡ other_lines (left l)
  pub label : l'.label ≡ after (left l) l.label

-- too long an input, of which nothing is taken, comes before a bad heading
abbrev pub Unopened : Lines → Lines → TextFault → Type 0
Unopened l l' Room = ⊥
Unopened l l' (Form c) = ⊥
Unopened l l' Heading = FirstTaken l l' × Headed (first_line (left l)) (Err heading.Form)
Unopened l l' (OutsideSetPoint c) = ⊥
Unopened l l' (TwiceSetPoint c) = ⊥
Unopened l l' TooLong = (16384 < length l.rest.now) × (left l' ≡ left l) × (l'.label ≡ l.label)
Unopened l l' (Sheet f c) = FirstTaken l l' × Headed (first_line (left l)) (Err heading.Size) × (f ≡ sheet.Size) × (c ≡ None)

abbrev pub Opened : Lines → Lines → Result head.Heading TextFault → Type 0
Opened l l' (Ok h) = FirstTaken l l' × Headed (first_line (left l)) (Ok h)
Opened l l' (Err f) = Unopened l l' f
