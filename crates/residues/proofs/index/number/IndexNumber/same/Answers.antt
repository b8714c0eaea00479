use Rattle.std.proofs.Common.{T, subst, eqb→eq}
use Rattle.residues.specs.IndexKind.{indices}
use Rattle.residues.specs.ResidueLaws.{number_same}
use Rattle.residues.proofs.index.number.IndexNumber.same.Goals as goal

pub returns-clause-sure : goal.returns-clause-sure
returns-clause-sure c t =
    let a = c.args.self in
    let b = c.args.b in
    number_same indices a b (eqb→eq a.teeth b.teeth (subst T c.eq.ensures t))
