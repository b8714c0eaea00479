use Rattle.std.proofs.Common.{arith}
use Rattle.rows.proofs.Sweeps.{does_first}
use Rattle.rows.proofs.row.sweep_first.Goals as goal

pub returns : goal.returns
returns g c = λ step gives keeps. does_first step c.args.w.now c.sweep.new.w c.args.count c.min-end.result c.sweep.result (omega (arith, c.min-end.ensures)) keeps (c.sweep.ensures step gives)
