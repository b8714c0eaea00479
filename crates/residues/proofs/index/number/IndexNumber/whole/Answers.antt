use Rattle.std.proofs.Common.{Ok, sym, ap, ◌∙◌, w32}
use Rattle.std.proofs.lemmas.Int.{to_z-of_z}
use Rattle.exact.specs.Answers.{held, whole_of}
use Rattle.residues.specs.IndexKind.{index, indices}
use Rattle.residues.specs.ResidueLaws.{whole_made}
use Rattle.residues.proofs.index.number.IndexNumber.whole.Goals as goal

pub returns : goal.returns
unfolding whole_of
returns c = ap Ok (c.from.ensures ∙ ap index (to_z-of_z w32 c.args.a c.ranges.a)) ∙ sym (ap held (whole_made indices c.args.a))
