use Rattle.linear.proofs.Theorems.{judgement}
use Rattle.linear.proofs.follows_or_stands.Goals as goal

pub returns : goal.returns
returns g c = judgement g.K.Number.laws.kind
