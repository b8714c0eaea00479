use Rattle.std.proofs.Common.{Ok, sym, ap, ◌∙◌, w32}
use Rattle.std.proofs.lemmas.Int.{to_z-of_z}
use Rattle.exact.specs.Answers.{held, whole_of}
use Rattle.residues.specs.ParityKind.{parity, parities}
use Rattle.residues.specs.ResidueLaws.{whole_made}
use Rattle.residues.proofs.parity.number.ParityNumber.whole.Goals as goal

pub returns : goal.returns
unfolding whole_of
returns c = ap Ok (c.from.ensures ∙ ap parity (to_z-of_z w32 c.args.a c.ranges.a)) ∙ sym (ap held (whole_made parities c.args.a))
