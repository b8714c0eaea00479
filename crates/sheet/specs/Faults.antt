-- What the faults of a sheet's calls tell.
use Rattle.std.specs.Prelude.{ℕ}
use Rattle.exact.specs.declared.report.Layer.TheVariants as layer
use Rattle.exact.specs.declared.report.Report.{Report}
use Rattle.sheet.specs.declared.fault.TrialFault.{TrialFault}
use Rattle.sheet.specs.declared.fault.TrialFault.TheVariants as trial
use Rattle.sheet.specs.declared.fault.WaitFault.{WaitFault}
use Rattle.sheet.specs.declared.fault.WaitFault.TheVariants as wait

abbrev numbered : ℕ → Report
numbered number = record { number = number; layer = layer.Sheet; place = 0 }

abbrev pub trial_report : TrialFault → Report
trial_report trial.Depth = numbered 6
trial_report trial.OtherTrial = numbered 7

abbrev pub wait_report : WaitFault → Report
wait_report wait.SetPoint = numbered 2
wait_report wait.Waiting = numbered 8
wait_report wait.NotWaiting = numbered 9
