use Rattle.residues.specs.Rest.{reciprocal}
use Rattle.residues.proofs.index.reciprocals.reciprocal_of.Goals as goal

pub entry-requires : goal.entry-requires
unfolding reciprocal
entry-requires c = tt
