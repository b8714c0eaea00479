use Rattle.std.proofs.Common.{rules, ◌≡◌}
use Rattle.residues.specs.ParityKind.{bit, parities}
use Rattle.residues.specs.ResidueLaws.{number_same}
use Rattle.residues.proofs.parity.number.ParityNumber.same.Goals as goal

pub returns-clause-sure : goal.returns-clause-sure
returns-clause-sure c t =
    let a = c.args.self in
    let b = c.args.b in
    let same : a ≡ b = search rules in
    let bits : bit a ≡ bit b = search rules in
    number_same parities a b bits
