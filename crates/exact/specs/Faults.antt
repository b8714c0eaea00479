-- What a fault of the numbers tells.
use Rattle.exact.specs.declared.report.Layer.TheVariants.{Numbers}
use Rattle.exact.specs.declared.report.Report.{Report}
use Rattle.exact.specs.declared.fault.NumberFault.{NumberFault}
use Rattle.exact.specs.declared.fault.NumberFault.TheVariants.{Beyond, ByZero}

abbrev pub number_report : NumberFault → Report
number_report Beyond = record { number = 40; layer = Numbers; place = 0 }
number_report ByZero = record { number = 41; layer = Numbers; place = 0 }
