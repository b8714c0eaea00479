use Rattle.std.proofs.Common.{Ok, sym, ap, ◌∙◌, ap₂}
use Rattle.exact.specs.Answers.{less_of}
use Rattle.residues.specs.ParityKind.{parity_kind}
use Rattle.residues.proofs.Parities.{less_shut, less_by_shut, less_open_open}
use Rattle.residues.proofs.parity.number.ParityNumber.less_times.Goals as goal

pub returns-in-Shut-default : goal.returns-in-Shut-default
returns-in-Shut-default c = less_shut c.args.self c.args.c ∙ ap (λ b. less_of parity_kind c.args.self b c.args.c) (sym c.in-Shut-default.is-0)

pub returns-in_default-Shut : goal.returns-in_default-Shut
returns-in_default-Shut c = less_by_shut c.args.self c.args.b ∙ ap (less_of parity_kind c.args.self c.args.b) (sym c.in_default-Shut.is-1)

pub returns-in-Open-Open : goal.returns-in-Open-Open
returns-in-Open-Open c = ap Ok c.not.ensures ∙ less_open_open c.args.self ∙ ap₂ (less_of parity_kind c.args.self) (sym c.in-Open-Open.is-0) (sym c.in-Open-Open.is-1)
