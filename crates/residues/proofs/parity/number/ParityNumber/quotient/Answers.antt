use Rattle.std.proofs.Common.{sym, ap, ◌∙◌}
use Rattle.exact.specs.Answers.{over_of}
use Rattle.residues.specs.ParityKind.{parity_kind}
use Rattle.residues.proofs.Parities.{over_open, over_shut}
use Rattle.residues.proofs.parity.number.ParityNumber.quotient.Goals as goal

pub returns-in-Shut : goal.returns-in-Shut
returns-in-Shut c = over_shut c.args.self ∙ ap (over_of parity_kind c.args.self) (sym c.in-Shut.is)

pub returns-in-Open : goal.returns-in-Open
returns-in-Open c = over_open c.args.self ∙ ap (over_of parity_kind c.args.self) (sym c.in-Open.is)
