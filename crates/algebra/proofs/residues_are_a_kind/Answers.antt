use Rattle.algebra.proofs.Ideals.{residue_laws}
use Rattle.algebra.proofs.residues_are_a_kind.Goals as goal

pub returns : goal.returns
returns c p large t = residue_laws p large t.0 t.1
