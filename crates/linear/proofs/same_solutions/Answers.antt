use Rattle.linear.proofs.Theorems.{same_solutions}
use Rattle.linear.proofs.same_solutions.Goals as goal

pub returns : goal.returns
returns g c = same_solutions g.K.Number.laws.kind
