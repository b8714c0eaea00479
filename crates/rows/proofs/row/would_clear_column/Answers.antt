use Rattle.std.proofs.Common.{None, Some, sym, refl, ap, ◌∙◌}
use Rattle.rows.specs.Row.{done}
use Rattle.rows.proofs.Ops.{cleared_is}
use Rattle.rows.proofs.row.would_clear_column.Goals as goal

pub returns-in-Some : goal.returns-in-Some
returns-in-Some g c =
    let is = cleared_is g.K.Number.kind c.args.s c.args.w.now c.args.by.now (Some c.in-Some.f) c.in-Some.ensures in
    record { answer = c.would_subtract.ensures.answer ∙ sym (ap done is.0); always = c.would_subtract.ensures.always }

pub returns-in-None : goal.returns-in-None
returns-in-None g c =
    let is = cleared_is g.K.Number.kind c.args.s c.args.w.now c.args.by.now None c.in-None.ensures in
    record { answer = sym (ap done is.0); always = λ _. refl }
