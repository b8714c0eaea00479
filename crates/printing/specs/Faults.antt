-- What a fault of printing tells.
use Rattle.exact.specs.declared.report.Layer.TheVariants as layer
use Rattle.exact.specs.declared.report.Report.{Report}
use Rattle.printing.specs.declared.fault.PrintFault.{PrintFault}
use Rattle.printing.specs.declared.fault.PrintFault.TheVariants.{Room}

abbrev pub print_report : PrintFault → Report
print_report Room = record { number = 4; layer = layer.Text; place = 0 }
