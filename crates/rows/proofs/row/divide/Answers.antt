use Rattle.std.proofs.Common.{◌∙◌, rules}
use Rattle.rows.specs.Row.{over_op, over_row, Does}
use Rattle.rows.proofs.Ops.{over_always}
use Rattle.rows.proofs.row.divide.Goals as goal

pub returns : goal.returns
unfolding over_row over_op
returns g c =
    let K = g.K.Number.kind in
    let d : Does (over_op K c.args.f) c.args.w.now c.sweep.result c.sweep.new.w = c.sweep.ensures (over_op K c.args.f) (λ i x r b p. search rules) in
    record { answer = d.answer; made = d.made; left = d.left; always = λ all nonzero. d.answer ∙ over_always g.K.Number.laws all c.args.f nonzero c.args.w.now }
