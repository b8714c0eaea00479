use Rattle.std.proofs.Common.{◌≡◌, ◌+◌, ◌*◌, ◌<◌, length, get_or, drop, sym, refl, ap, ◌∙◌, arith, get_or-drop, get_or-take}
use Rattle.exact.proofs.Held.{nil_zero}
use Rattle.rows.specs.Row.{done}
use Rattle.rows.specs.Table.{row_of, with_row}
use Rattle.std.proofs.lemmas.List.{get_or_past}
use Rattle.rows.proofs.Ops.{at_is}
use Rattle.rows.proofs.Tables.{cleared_zero, cleared_less, row_long, same_row}
use Rattle.rows.proofs.table.clear_row.Goals as goal

pub returns-then-s-width : goal.returns-then-s-width
returns-then-s-width g c =
    let K = g.K.Number.kind in
    let a = c.args in
    let m = a.table.now in
    let w = row_of a.width m a.w in
    let l = row_long a.width m a.w in
    let is = cleared_zero K a.s w (row_of a.width m a.by) K.nil (get_or_past w a.s K.nil (omega (arith, l, c.if-s-width.true))) (nil_zero g.K.Number.laws) in
    record { answer = sym (ap done is.0); after = sym (ap (with_row a.width m a.w) is.1 ∙ same_row a.width m a.w); always = λ _. refl }

pub returns-then-column-table : goal.returns-then-column-table
returns-then-column-table g c =
    let K = g.K.Number.kind in
    let a = c.args in
    let m = a.table.now in
    let w = row_of a.width m a.w in
    let l = row_long a.width m a.w in
    let is = cleared_zero K a.s w (row_of a.width m a.by) K.nil (get_or_past w a.s K.nil (omega (arith, l))) (nil_zero g.K.Number.laws) in
    record { answer = sym (ap done is.0); after = sym (ap (with_row a.width m a.w) is.1 ∙ same_row a.width m a.w); always = λ _. refl }

pub returns-then-is_zero : goal.returns-then-is_zero
returns-then-is_zero g c =
    let K = g.K.Number.kind in
    let a = c.args in
    let m = a.table.now in
    let w = row_of a.width m a.w in
    let x = c.index-table-column.result in
    let l = row_long a.width m a.w in
    let place : c.saturating_add-column.result ≡ a.w * a.width + a.s = omega arith in
    let inside : a.s < length w = omega (arith, l) in
    let x_is : x ≡ get_or w a.s x = c.index-table-column.is ∙ ap (λ k. get_or m k x) place ∙ sym (get_or-take a.width (drop (a.w * a.width) m) a.s x c.if-s-width.false ∙ get_or-drop (a.w * a.width) m a.s x) in
    let is = cleared_zero K a.s w (row_of a.width m a.by) x (at_is K w a.s x inside x_is) (sym c.if-is_zero.ensures) in
    record { answer = sym (ap done is.0); after = sym (ap (with_row a.width m a.w) is.1 ∙ same_row a.width m a.w); always = λ _. refl }

pub returns : goal.returns
returns g c =
    let K = g.K.Number.kind in
    let a = c.args in
    let m = a.table.now in
    let w = row_of a.width m a.w in
    let x = c.index-table-column.result in
    let l = row_long a.width m a.w in
    let place : c.saturating_add-column.result ≡ a.w * a.width + a.s = omega arith in
    let inside : a.s < length w = omega (arith, l) in
    let x_is : x ≡ get_or w a.s x = c.index-table-column.is ∙ ap (λ k. get_or m k x) place ∙ sym (get_or-take a.width (drop (a.w * a.width) m) a.s x c.if-s-width.false ∙ get_or-drop (a.w * a.width) m a.s x) in
    let is = cleared_less K a.s w (row_of a.width m a.by) x (at_is K w a.s x inside x_is) (sym c.if-is_zero.ensures) in
    let e = c.subtract_row.ensures in
    record { answer = e.answer ∙ sym (ap done is.0); after = e.after ∙ sym (ap (with_row a.width m a.w) is.1); always = e.always }
