use Rattle.std.proofs.Common.{ap, ◌∙◌, arith, rules}
use Rattle.std.specs.Option.{unwrap_or}
use Rattle.exact.proofs.Held.{nil_zero}
use Rattle.rows.proofs.Ops.{nonzero_is}
use Rattle.rows.proofs.row.nonzero_at.Goals as goal

pub returns : goal.returns
returns g c = nonzero_is g.K.Number.kind (nil_zero g.K.Number.laws) c.args.w.now c.args.s c.copied.result c.filter.result (ap (λ o. unwrap_or o g.K.Number.kind.nil) c.copied.ensures ∙ c.get.ensures.lookup.4 (omega arith) g.K.Number.kind.nil) c.filter.ensures (λ x b q. search rules)
