use Rattle.algebra.proofs.Ideals.{ordinary_laws}
use Rattle.algebra.proofs.fractions_are_a_kind.Goals as goal

pub returns : goal.returns
returns c = ordinary_laws
