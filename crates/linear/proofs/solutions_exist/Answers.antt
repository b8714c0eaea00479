use Rattle.linear.proofs.Theorems.{solutions_exist}
use Rattle.linear.proofs.solutions_exist.Goals as goal

pub returns : goal.returns
returns g c = solutions_exist g.K.Number.laws.kind
