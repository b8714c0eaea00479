-- How many records tell a clash.
use Rattle.std.specs.Prelude.{ℕ, ◌≤◌, List, take, Some, None, Ok, Err, Option, Result}
use Rattle.exact.specs.Kind.{Kind}
use Rattle.elimination.specs.declared.fault.SheetFault.{SheetFault}
use Rattle.elimination.specs.declared.fault.SheetFault.TheVariants as sheet
use Rattle.elimination.specs.declared.record.Record.{Record}
use Rattle.placing.specs.declared.fault.TextFault.{TextFault}
use Rattle.placing.specs.declared.fault.TextFault.TheVariants.{Room, Form, Heading, OutsideSetPoint, TwiceSetPoint, TooLong, Sheet}
use Rattle.placing.specs.Faults.{text_report}
use Rattle.printing.specs.Rows.{held_row, follows_row, clash_row, refused_row}
use Rattle.sheet.specs.declared.answer.Stated.{Stated}
use Rattle.sheet.specs.declared.answer.Stated.TheVariants.{Held, Follows}
use Rattle.recipe.specs.Added.{entries_of}

-- none of any other fault
abbrev pub sheet_count : SheetFault → Option ℕ
sheet_count sheet.Size = None
sheet_count sheet.SetPoint = None
sheet_count sheet.Length = None
sheet_count sheet.Room = None
sheet_count sheet.Label = None
sheet_count (sheet.Limit position) = None
sheet_count (sheet.Clash count) = Some count
sheet_count (sheet.Numbers f) = None

abbrev pub clash_count : TextFault → Option ℕ
clash_count Room = None
clash_count (Form c) = None
clash_count Heading = None
clash_count (OutsideSetPoint c) = None
clash_count (TwiceSetPoint c) = None
clash_count TooLong = None
clash_count (Sheet f c) = sheet_count f

abbrev pub Within : ℕ → Option ℕ → Type 0
Within room None = Unit {0}
Within room (Some count) = count ≤ room

-- so many records are there
abbrev pub Evident : ℕ → Result Stated TextFault → Type 0
Evident room (Ok s) = Unit {0}
Evident room (Err f) = Within room (clash_count f)

module _ {V : Type 0} (K : Kind V) (label : ℕ) where
  abbrev pub fault_row : TextFault → List (Record V) → Option ℕ → List ℕ
  fault_row f records None = refused_row label (text_report f)
  fault_row f records (Some count) = clash_row label (entries_of K (take count records))

  -- the row of a line that was answered so, where a clash has its evidence in the first records
  abbrev pub answer_row : Result Stated TextFault → List (Record V) → List ℕ
  answer_row (Ok (Held place)) records = held_row label place
  answer_row (Ok Follows) records = follows_row label
  answer_row (Err f) records = fault_row f records (clash_count f)
