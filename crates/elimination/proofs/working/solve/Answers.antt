use Rattle.std.proofs.Common.{◌≡◌, length, Some, None, Ok, Err, sym, refl, ap, ◌∙◌, subst, ap₂, arith}
use Rattle.std.proofs.lemmas.Result.{err_from_is_err_and}
use Rattle.rows.specs.Row.{done}
use Rattle.elimination.specs.Held.{wide, row_at, held_lines}
use Rattle.elimination.specs.Steps.{forward, subject, holding}
use Rattle.elimination.specs.Outcome.{stuck, solved, found, solved_for, work}
use Rattle.elimination.specs.Working.{HoldsRows, Left}
use Rattle.elimination.specs.Stating.{Answers}
use Rattle.elimination.proofs.Frames.{held_length, only_held, only_lines}
use Rattle.elimination.proofs.Ranges.{part}
use Rattle.elimination.proofs.Outcomes.{forward_stops, went_on}
use Rattle.elimination.proofs.Walks.{made_ok, made_err, made_from}
use Rattle.elimination.proofs.working.solve.Goals as goal

pub returns-in_err-go_forward : goal.returns-in_err-go_forward
returns-in_err-go_forward g c =
    let K = g.K.Number.kind in
    let n = c.args.held.n in
    let es = c.args.held.entries.now in
    let h = length es in
    let m = c.args.memory.now in
    let m₁ = c.go_forward.new.memory in
    let hs = held_lines n m 0 es in
    let w = row_at n m h in
    let x = c.go_forward.ensures in
    let f = c.in_err-go_forward.field-0.0 in
    let p = err_from_is_err_and c.from_residual.result c.from_residual.ensures.1 in
    let says : c.from_residual.result ≡ Err f = p.1 ∙ ap Err p.2 in
    let all = forward_stops K n hs w f (made_err (forward K 1 hs w) f (sym x.answer ∙ c.in_err-go_forward.was)) in
    record {
      answer = says ∙ sym (ap found all);
      proper = subst (Answers n h) (sym says) tt;
      left = subst (λ o. Left o c.args.held m m₁) (sym all) (only_held n h m m₁ x.only c.args.held.held es (omega arith));
      lines = only_lines n h m m₁ x.only c.args.held.held;
    }

pub returns-in-None : goal.returns-in-None
returns-in-None g c =
    let K = g.K.Number.kind in
    let n = c.args.held.n in
    let es = c.args.held.entries.now in
    let h = length es in
    let m = c.args.memory.now in
    let m₁ = c.go_forward.new.memory in
    let hs = held_lines n m 0 es in
    let w = row_at n m h in
    let v = row_at n m₁ h in
    let x = c.go_forward.ensures in
    let went = made_ok (forward K 1 hs w) v (sym x.answer ∙ c.in_ok-go_forward.was) x.made in
    let none : subject K n (length hs) v ≡ None = ap₂ (subject K n) (held_length n m 0 es) (sym (part (wide c.args.held.n) c.working_row.ensures.start c.working_row.ensures.end m₁)) ∙ sym c.subject_of.ensures.answer ∙ c.in-None.is in
    let all = went_on K n hs w v None went none in
    record {
      answer = sym (ap found all);
      proper = tt;
      left = subst (λ o. Left o c.args.held m m₁) (sym all) (only_held n h m m₁ x.only c.args.held.held es (omega arith), refl);
      lines = only_lines n h m m₁ x.only c.args.held.held;
    }

pub returns-in_err-hold_rows-in-Some : goal.returns-in_err-hold_rows-in-Some
returns-in_err-hold_rows-in-Some g c =
    let K = g.K.Number.kind in
    let n = c.args.held.n in
    let es = c.args.held.entries.now in
    let h = length es in
    let m = c.args.memory.now in
    let m₁ = c.go_forward.new.memory in
    let m₂ = c.hold_rows.new.memory in
    let hs = held_lines n m 0 es in
    let w = row_at n m h in
    let v = row_at n m₁ h in
    let q = c.in-Some.q in
    let x = c.go_forward.ensures in
    let kept = only_held n h m m₁ x.only c.args.held.held es (omega arith) in
    let went = made_ok (forward K 1 hs w) v (sym x.answer ∙ c.in_ok-go_forward.was) x.made in
    let some : subject K n (length hs) v ≡ Some q = ap₂ (subject K n) (held_length n m 0 es) (sym (part (wide c.args.held.n) c.working_row.ensures.start c.working_row.ensures.end m₁)) ∙ sym c.subject_of.ensures.answer ∙ c.in-Some.is in
    let f = c.in_err-hold_rows-in-Some.field-0.0 in
    let p = err_from_is_err_and c.from_residual-in_err-hold_rows-in-Some.result c.from_residual-in_err-hold_rows-in-Some.ensures.1 in
    let says : c.from_residual-in_err-hold_rows-in-Some.result ≡ Err f = p.1 ∙ ap Err p.2 in
    let stopped = made_err (holding K q hs v) f (ap (λ gs. done (holding K q gs v)) (sym kept) ∙ sym c.hold_rows.ensures.answer ∙ c.in_err-hold_rows-in-Some.was) in
    let all : work K n hs w ≡ stuck f = went_on K n hs w v (Some q) went some ∙ ap (solved_for K q) stopped in
    let rows : HoldsRows (Err f) c.args.held m₁ m₂ = subst (λ r. HoldsRows r c.args.held m₁ m₂) (ap (λ gs. holding K q gs v) kept ∙ stopped) c.hold_rows.ensures.rows in
    record {
      answer = says ∙ sym (ap found all);
      proper = subst (Answers n h) (sym says) tt;
      left = subst (λ o. Left o c.args.held m m₂) (sym all) (rows ∙ kept);
      lines = c.hold_rows.ensures.lines ∙ only_lines n h m m₁ x.only c.args.held.held;
    }

pub returns-in_ok-hold_rows-in-Some : goal.returns-in_ok-hold_rows-in-Some
returns-in_ok-hold_rows-in-Some g c =
    let K = g.K.Number.kind in
    let n = c.args.held.n in
    let es = c.args.held.entries.now in
    let h = length es in
    let m = c.args.memory.now in
    let m₁ = c.go_forward.new.memory in
    let m₂ = c.hold_rows.new.memory in
    let hs = held_lines n m 0 es in
    let w = row_at n m h in
    let v = row_at n m₁ h in
    let q = c.in-Some.q in
    let x = c.go_forward.ensures in
    let kept = only_held n h m m₁ x.only c.args.held.held es (omega arith) in
    let went = made_ok (forward K 1 hs w) v (sym x.answer ∙ c.in_ok-go_forward.was) x.made in
    let some : subject K n (length hs) v ≡ Some q = ap₂ (subject K n) (held_length n m 0 es) (sym (part (wide c.args.held.n) c.working_row.ensures.start c.working_row.ensures.end m₁)) ∙ sym c.subject_of.ensures.answer ∙ c.in-Some.is in
    let made = made_from (holding K q hs v) (ap (λ gs. done (holding K q gs v)) (sym kept) ∙ sym c.hold_rows.ensures.answer ∙ c.in_ok-hold_rows-in-Some.was) in
    let all : work K n hs w ≡ solved q made.0.0 made.0.1 = went_on K n hs w v (Some q) went some ∙ ap (solved_for K q) made.1 in
    let rows : HoldsRows (Ok made.0) c.args.held m₁ m₂ = subst (λ r. HoldsRows r c.args.held m₁ m₂) (ap (λ gs. holding K q gs v) kept ∙ made.1) c.hold_rows.ensures.rows in
    record {
      answer = sym (ap found all);
      proper = c.in-Some.ensures.found;
      left = subst (λ o. Left o c.args.held m m₂) (sym all) rows;
      lines = c.hold_rows.ensures.lines ∙ only_lines n h m m₁ x.only c.args.held.held;
    }
