use Rattle.std.proofs.Common.{rules}
use Rattle.rows.proofs.Ops.{highest_is}
use Rattle.rows.proofs.row.highest_nonzero.Goals as goal

pub returns : goal.returns
returns g c =
    highest_is g.K.Number.kind c.args.w.now c.rposition.result
    (λ e k h. search rules)
    (λ i e. (search rules, search rules, λ k a b. search rules))
