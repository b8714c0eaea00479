-- What a fault of the sheet tells.
use Rattle.std.specs.Prelude.{ℕ}
use Rattle.exact.specs.Faults.{number_report}
use Rattle.exact.specs.declared.report.Layer.TheVariants as layer
use Rattle.exact.specs.declared.report.Report.{Report}
use Rattle.elimination.specs.declared.fault.StepFault.{StepFault}
use Rattle.elimination.specs.declared.fault.SheetFault.{SheetFault}
use Rattle.elimination.specs.declared.fault.SheetFault.TheVariants.{Size, SetPoint, Length, Room, Label, Limit, Clash, Numbers}

abbrev on_sheet : ℕ → ℕ → Report
on_sheet number place = record { number = number; layer = layer.Sheet; place = place }

-- the place is the position of a number of the line, or a column of the row; a number's fault keeps its number and its layer
abbrev pub sheet_report : SheetFault → Report
sheet_report Size = on_sheet 1 0
sheet_report SetPoint = on_sheet 2 0
sheet_report Length = on_sheet 3 0
sheet_report Room = on_sheet 4 0
sheet_report Label = on_sheet 5 0
sheet_report (Limit position) = on_sheet 20 position
sheet_report (Clash count) = on_sheet 21 0
sheet_report (Numbers f) = let r = number_report f.row.fault in record { number = r.number; layer = r.layer; place = f.row.column }

-- a step's fault passes up whole
abbrev pub step_raised : StepFault → SheetFault
step_raised f = Numbers f
