use Rattle.std.proofs.Common.{◌∙◌, rules}
use Rattle.rows.specs.Row.{less_op, less_row, less_swept, Does}
use Rattle.rows.proofs.Ops.{less_past, less_always}
use Rattle.rows.proofs.row.subtract.Goals as goal

pub returns : goal.returns
unfolding less_row less_swept less_op
returns g c =
    let op = less_op g.K.Number.kind c.args.f c.args.by.now in
    let d : Does op c.args.w.now c.sweep_first.result c.sweep_first.new.w = c.sweep_first.ensures op (λ i x r b p. search rules) (less_past g.K.Number.kind c.args.f c.args.by.now) in
    record { answer = d.answer; made = d.made; left = d.left; always = λ all. d.answer ∙ less_always g.K.Number.laws all c.args.f c.args.w.now c.args.by.now }
