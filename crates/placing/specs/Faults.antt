-- What a fault of the text tells.
use Rattle.std.specs.Prelude.{ℕ, None, Option, unwrap_or}
use Rattle.exact.specs.declared.report.Layer.TheVariants as layer
use Rattle.exact.specs.declared.report.Report.{Report}
use Rattle.elimination.specs.declared.fault.SheetFault.{SheetFault}
use Rattle.elimination.specs.declared.fault.SheetFault.TheVariants as sheet
use Rattle.elimination.specs.Faults.{sheet_report}
use Rattle.cutting.specs.declared.heading.HeadingFault.{HeadingFault}
use Rattle.cutting.specs.declared.heading.HeadingFault.TheVariants as heading
use Rattle.printing.specs.declared.fault.PrintFault.{PrintFault}
use Rattle.printing.specs.declared.fault.PrintFault.TheVariants as print
use Rattle.reading.specs.declared.fault.FormFault.{FormFault}
use Rattle.placing.specs.declared.fault.TextFault.{TextFault}
use Rattle.placing.specs.declared.fault.TextFault.TheVariants.{Room, Form, Heading, OutsideSetPoint, TwiceSetPoint, TooLong, Sheet}

abbrev in_text : ℕ → ℕ → Report
in_text number place = record { number = number; layer = layer.Text; place = place }

-- a number outside its limits is at a column of the text; else the sheet's place stands
abbrev pub sheet_told : SheetFault → Option ℕ → Report
sheet_told sheet.Size column = sheet_report sheet.Size
sheet_told sheet.SetPoint column = sheet_report sheet.SetPoint
sheet_told sheet.Length column = sheet_report sheet.Length
sheet_told sheet.Room column = sheet_report sheet.Room
sheet_told sheet.Label column = sheet_report sheet.Label
sheet_told (sheet.Limit position) column = record { number = 20; layer = layer.Sheet; place = unwrap_or column 0 }
sheet_told (sheet.Clash count) column = sheet_report (sheet.Clash count)
sheet_told (sheet.Numbers f) column = sheet_report (sheet.Numbers f)

abbrev pub text_report : TextFault → Report
text_report Room = in_text 4 0
text_report (Form column) = in_text 22 column
text_report Heading = in_text 22 0
text_report (OutsideSetPoint column) = in_text 23 column
text_report (TwiceSetPoint column) = in_text 24 column
text_report TooLong = in_text 26 0
text_report (Sheet fault column) = sheet_told fault column

-- the faults of the layers below pass up whole
abbrev pub form_raised : FormFault → TextFault
form_raised f = Form f.column

abbrev pub sheet_raised : SheetFault → TextFault
sheet_raised f = Sheet f None

abbrev pub heading_raised : HeadingFault → TextFault
heading_raised heading.Form = Heading
heading_raised heading.Size = sheet_raised sheet.Size

abbrev pub print_raised : PrintFault → TextFault
print_raised print.Room = Room
