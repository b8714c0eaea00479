use Rattle.std.proofs.Common.{arith}
use Rattle.rows.proofs.Sweeps.{at_all}
use Rattle.rows.proofs.row.sweep.Goals as goal

pub returns : goal.returns
returns g c = λ step gives. at_all step c.args.w.now c.loop-i.w c.loop-i.i-counter (omega arith) (c.loop-i.invariant step gives)
