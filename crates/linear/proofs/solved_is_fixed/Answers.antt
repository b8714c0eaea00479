use Rattle.linear.proofs.Theorems.{fixed_numbers}
use Rattle.linear.proofs.solved_is_fixed.Goals as goal

pub returns : goal.returns
returns g c = fixed_numbers g.K.Number.laws.kind
