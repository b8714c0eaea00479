use Rattle.std.proofs.Common.{refl}
use Rattle.residues.specs.IndexKind.{index}
use Rattle.residues.specs.ParityKind.{parity}
use Rattle.residues.specs.Residue.{residue_of}
use Rattle.residues.specs.Rest.{rest, reciprocal}
use Rattle.residues.proofs.example.remainders_example.Goals as goal

pub returns : goal.returns
unfolding residue_of rest reciprocal index parity
returns c = ((_, refl, refl), (refl, refl))
