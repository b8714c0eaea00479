use Rattle.linear.proofs.Theorems.{evidence}
use Rattle.linear.proofs.least_evidence.Goals as goal

pub returns : goal.returns
returns g c = evidence g.K.Number.laws.kind
