use Rattle.std.proofs.Common.{◌≡◌, drop, length, length-drop, ◌-◌, inl, inr, Ok, Err, sym, refl, ap, ap₂, ◌∙◌, arith, rules}
use Rattle.std.proofs.lemmas.List.{nil_from_length}
use Rattle.rows.specs.Row.{placed, done, by_column, less_op, less_row}
use Rattle.rows.proofs.Sweeps.{placed_is, passed, next_is, answer_more, answer_stop, rest_row}
use Rattle.rows.proofs.Ops.{less_inside, less_past, less_always}
use Rattle.rows.proofs.row.would_subtract.Goals as goal

pub loop-i-preserved : goal.loop-i-preserved
loop-i-preserved g c =
    let K = g.K.Number.kind in
    let r = c.args.by.now in
    let op = less_op K c.args.f r in
    let i = c.loop-i.i-iterator.count in
    let x = c.in-Some.x.now in
    let y = c.in-Some.y.now in
    let xs = c.next.new.self.iter.a.rest.now in
    let s = c.in-Some.ensures.steps in
    let d = next_is K.nil r i y c.next.new.self.iter.b.rest.now (sym s.0.1 ∙ c.loop-i.invariant.ahead) in
    let said : c.map_err.result ≡ placed i (op i x) =
    placed_is c.in-Some.i c.less_times.result c.map_err.result c.map_err.ensures.cases (λ e f p. search rules)
    ∙ ap₂ placed s.1 (c.less_times.ensures ∙ sym (less_inside K c.args.f r i x y d.0 d.1)) in
    record {
      ahead = d.2 ∙ ap (λ n. drop n r) (sym s.2);
      answer = c.loop-i.invariant.answer ∙ ap (λ l. done (by_column op i l)) s.0.0 ∙ answer_more op i x c.in_ok-map_err.field-0 xs (sym said ∙ c.in_ok-map_err.was)
          ∙ ap (λ n. done (by_column op n xs)) (sym s.2);
    }

pub returns-in_err-map_err : goal.returns-in_err-map_err
unfolding less_row
returns-in_err-map_err g c =
    let K = g.K.Number.kind in
    let r = c.args.by.now in
    let op = less_op K c.args.f r in
    let i = c.loop-i.i-iterator.count in
    let x = c.in-Some.x.now in
    let y = c.in-Some.y.now in
    let f = c.in_err-map_err.field-0.0 in
    let s = c.in-Some.ensures.steps in
    let d = next_is K.nil r i y c.next.new.self.iter.b.rest.now (sym s.0.1 ∙ c.loop-i.invariant.ahead) in
    let said : c.map_err.result ≡ placed i (op i x) =
    placed_is c.in-Some.i c.less_times.result c.map_err.result c.map_err.ensures.cases (λ e f p. search rules)
    ∙ ap₂ placed s.1 (c.less_times.ensures ∙ sym (less_inside K c.args.f r i x y d.0 d.1)) in
    let stop : done (by_column op 0 c.args.w.now) ≡ Err f =
    c.loop-i.invariant.answer ∙ ap (λ l. done (by_column op i l)) s.0.0 ∙ answer_stop op i x f c.next.new.self.iter.a.rest.now (sym said ∙ c.in_err-map_err.was) in
    let says = passed c.from_residual.result f c.from_residual.ensures.1 ∙ sym stop in
    record { answer = says; always = λ all. says ∙ less_always g.K.Number.laws all c.args.f c.args.w.now r }

pub returns : goal.returns
unfolding less_row
returns g c =
    let K = g.K.Number.kind in
    let r = c.args.by.now in
    let op = less_op K c.args.f r in
    let i = c.loop-i.i-iterator.count in
    let xs = c.loop-i.i-iterator.iter.a.rest.now in
    let left : length c.loop-i.i-iterator.iter.b.rest.now ≡ length r - i = ap length c.loop-i.invariant.ahead ∙ length-drop i r in
    let ends : done (by_column op i xs) ≡ Ok tt = elim c.in-None.ensures.steps.0 [
      | inl p ↦ ap (λ l. done (by_column op i l)) (nil_from_length xs p.1.0)
      | inr p ↦ ap done (rest_row op i xs (λ u x l. less_past K c.args.f r u x (omega (arith, left, p.1.0, l))))
    ] in
    record { answer = sym (c.loop-i.invariant.answer ∙ ends); always = λ _. refl }
