use Rattle.rows.specs.Row.{Gives}
use Rattle.rows.proofs.Sweeps.{At}
use Rattle.rows.proofs.row.sweep.Given as goal

abbrev pub invariant-loop-i : goal.invariant-loop-i
invariant-loop-i g l = (step : _) → Gives (λ i x r. goal.F-post g l.op i x r) step → At step l.initial.w l.i-counter l.w
