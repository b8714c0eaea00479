use Rattle.linear.proofs.Theorems.{multipliers_unique}
use Rattle.linear.proofs.multipliers_unique.Goals as goal

pub returns : goal.returns
returns g c = multipliers_unique g.K.Number.laws.kind
