use Rattle.std.proofs.Common.{None, Some, sym, refl, ap, ◌∙◌, subst}
use Rattle.rows.specs.Row.{done, Leaves}
use Rattle.rows.proofs.Ops.{cleared_is}
use Rattle.rows.proofs.row.clear_column.Goals as goal

pub returns-in-Some : goal.returns-in-Some
returns-in-Some g c =
    let is = cleared_is g.K.Number.kind c.args.s c.args.w.now c.args.by.now (Some c.in-Some.f) c.in-Some.ensures in
    let e = c.subtract.ensures in
    record { answer = e.answer ∙ sym (ap done is.0); made = subst (λ m. Leaves m c.subtract.new.w) (sym is.0) e.made; left = e.left ∙ sym is.1; always = e.always }

pub returns-in-None : goal.returns-in-None
returns-in-None g c =
    let is = cleared_is g.K.Number.kind c.args.s c.args.w.now c.args.by.now None c.in-None.ensures in
    record { answer = sym (ap done is.0); made = subst (λ m. Leaves m c.args.w.now) (sym is.0) refl; left = sym is.1; always = λ _. refl }
