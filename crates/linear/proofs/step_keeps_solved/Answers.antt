use Rattle.linear.proofs.Theorems.{step_keeps_solved}
use Rattle.linear.proofs.step_keeps_solved.Goals as goal

pub returns : goal.returns
returns g c = step_keeps_solved g.K.Number.laws.kind
