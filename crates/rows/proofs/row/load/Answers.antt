use Rattle.std.proofs.Common.{◌∙◌, rules}
use Rattle.rows.specs.Row.{whole_op, whole_row, Does}
use Rattle.rows.proofs.Ops.{whole_past, whole_row_always}
use Rattle.rows.proofs.row.load.Goals as goal

pub returns : goal.returns
unfolding whole_row whole_op
returns g c =
    let op = whole_op g.K.Number.kind c.args.numbers.now in
    let d : Does op c.args.w.now c.sweep_first.result c.sweep_first.new.w = c.sweep_first.ensures op (λ i x r b p. search rules) (whole_past g.K.Number.kind c.args.numbers.now) in
    record { answer = d.answer; made = d.made; left = d.left; always = λ all. d.answer ∙ whole_row_always g.K.Number.laws all c.args.numbers.now c.args.w.now }
