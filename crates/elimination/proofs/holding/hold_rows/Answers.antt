use Rattle.std.proofs.Common.{◌≡◌, ◌-◌, length, take, drop, Ok, Err, sym, refl, ap, ◌∙◌, subst, ap₂, arith}
use borrow.Rule.Slice.PartMut.{put_mid}
use Rattle.std.proofs.lemmas.Result.{err_from_is_err_and}
use Rattle.rows.specs.Row.{at, done, Leaves, over_row}
use Rattle.elimination.specs.declared.fault.Step.TheVariants.{Divide}
use Rattle.elimination.specs.Held.{wide, lines_place, row_place, lines_of, row_of}
use Rattle.elimination.specs.Steps.{back, holding}
use Rattle.elimination.proofs.Places.{row_line, rest_past}
use Rattle.elimination.proofs.Solving.{divide_stops, back_stops, both_made}
use Rattle.elimination.proofs.Outcomes.{rows_unheld, rows_held}
use Rattle.elimination.proofs.Walks.{located_ok, located_err, made_ok, made_err}
use Rattle.elimination.proofs.Written.{row_part, number_is, row_written, others_kept, numbers_kept}
use Rattle.elimination.proofs.holding.hold_rows.Goals as goal

pub returns-in_err-at_place : goal.returns-in_err-at_place
returns-in_err-at_place g c =
    let K = g.K.Number.kind in
    let h = c.args.held in
    let q = c.args.q in
    let m = c.args.memory.now in
    let hs = lines_of h m in
    let w = row_of h m in
    let v = c.divide.new.w in
    let own = c.working_row.ensures in
    let row = row_part h m c.requires.room own.start own.end in
    let is = number_is h m c.requires.room own.start own.end K q c.index-w-q.result (omega arith) c.index-w-q.is in
    let f = c.in_err-at_place.field-0.0 in
    let p = err_from_is_err_and c.from_residual.result c.from_residual.ensures.1 in
    let e = located_err Divide 0 (over_row K (at K w q) w) c.divide.result f (c.divide.ensures.answer ∙ ap₂ (λ y u. done (over_row K y u)) is row) (sym c.at_place.ensures ∙ c.in_err-at_place.was) in
    let all = divide_stops K q hs w f e in
    record {
      answer = p.1 ∙ ap Err p.2 ∙ sym (ap done all);
      rows = rows_unheld (holding K q hs w) h m f all _ (others_kept h m c.requires.room own.start own.end v c.divide.auto.w);
      lines = numbers_kept h m c.requires.room own.start own.end v c.divide.auto.w;
    }

pub returns-in_err-would_go_back : goal.returns-in_err-would_go_back
returns-in_err-would_go_back g c =
    let K = g.K.Number.kind in
    let h = c.args.held in
    let q = c.args.q in
    let m = c.args.memory.now in
    let hs = lines_of h m in
    let w = row_of h m in
    let v = c.divide.new.w in
    let own = c.working_row.ensures in
    let row = row_part h m c.requires.room own.start own.end in
    let is = number_is h m c.requires.room own.start own.end K q c.index-w-q.result (omega arith) c.index-w-q.is in
    let made = subst (λ u. Leaves (over_row K (at K w q) u) v) row (subst (λ y. Leaves (over_row K y (take (c.working_row.result.end - c.working_row.result.start) (drop c.working_row.result.start m))) v) is c.divide.ensures.made) in
    let e = located_ok Divide 0 (over_row K (at K w q) w) c.divide.result v (c.divide.ensures.answer ∙ ap₂ (λ y u. done (over_row K y u)) is row) made (sym c.at_place.ensures ∙ c.in_ok-at_place.was) in
    let others = others_kept h m c.requires.room own.start own.end v c.divide.auto.w in
    let f = c.in_err-would_go_back.field-0.0 in
    let p = err_from_is_err_and c.from_residual-in_err-would_go_back.result c.from_residual-in_err-would_go_back.ensures.1 in
    let stopped = made_err (back K q 1 v hs) f (ap₂ (λ u gs. done (back K q 1 u gs)) (sym (row_written h m c.requires.room own.start own.end v c.divide.auto.w)) (sym others) ∙ sym c.would_go_back.ensures ∙ c.in_err-would_go_back.was) in
    let all = back_stops K q hs w v e f stopped in
    record {
      answer = p.1 ∙ ap Err p.2 ∙ sym (ap done all);
      rows = rows_unheld (holding K q hs w) h m f all _ others;
      lines = numbers_kept h m c.requires.room own.start own.end v c.divide.auto.w;
    }

pub returns : goal.returns
returns g c =
    let K = g.K.Number.kind in
    let h = c.args.held in
    let n = h.n in
    let q = c.args.q in
    let m = c.args.memory.now in
    let hs = lines_of h m in
    let w = row_of h m in
    let v = c.divide.new.w in
    let own = c.working_row.ensures in
    let row = row_part h m c.requires.room own.start own.end in
    let is = number_is h m c.requires.room own.start own.end K q c.index-w-q.result (omega arith) c.index-w-q.is in
    let made = subst (λ u. Leaves (over_row K (at K w q) u) v) row (subst (λ y. Leaves (over_row K y (take (c.working_row.result.end - c.working_row.result.start) (drop c.working_row.result.start m))) v) is c.divide.ensures.made) in
    let e = located_ok Divide 0 (over_row K (at K w q) w) c.divide.result v (c.divide.ensures.answer ∙ ap₂ (λ y u. done (over_row K y u)) is row) made (sym c.at_place.ensures ∙ c.in_ok-at_place.was) in
    let m₁ = put_mid c.working_row.result.start (c.working_row.result.end - c.working_row.result.start) m v in
    let m₂ = c.go_back.new.memory in
    let written = row_written h m c.requires.room own.start own.end v c.divide.auto.w in
    let others = others_kept h m c.requires.room own.start own.end v c.divide.auto.w in
    let after = row_line n (length h.entries.now) 0 h.held in
    let went : back K q 1 v hs ≡ Ok (lines_of h m₂) =
    ap₂ (back K q 1) (sym written) (sym others) ∙ made_ok (back K q 1 (row_of h m₁) (lines_of h m₁)) (lines_of h m₂) (sym c.would_go_back.ensures ∙ c.in_ok-would_go_back.was) c.go_back.ensures.made in
    let all = both_made K q hs w v e (lines_of h m₂) went in
    record {
      answer = sym (ap done all);
      rows = rows_held (holding K q hs w) h m (v, lines_of h m₂) all m₂ (refl, ap (take (wide n)) c.go_back.ensures.rest ∙ written);
      lines = rest_past (row_place n (length h.entries.now)) (lines_place n) (omega (arith, after)) m₂ m₁ c.go_back.ensures.rest ∙ numbers_kept h m c.requires.room own.start own.end v c.divide.auto.w;
    }
