use Rattle.std.proofs.Common.{◌≡◌, ◌+◌, ◌-◌, ◌≤◌, length, take, drop, Ok, Err, sym, ap, ◌∙◌, subst, ap₂, arith, rules}
use Rattle.std.proofs.lemmas.Result.{err_from_is_err_and}
use Rattle.rows.specs.Row.{done, cleared}
use Rattle.elimination.specs.declared.fault.Step.TheVariants.{Forward}
use Rattle.elimination.specs.Held.{wide, row_place, row_at, OnlyRow}
use Rattle.elimination.specs.Steps.{located, forward}
use Rattle.elimination.proofs.Frames.{part_own, only_put}
use Rattle.elimination.proofs.Places.{row_next, row_fits, row_length}
use Rattle.elimination.proofs.Ranges.{part}
use Rattle.elimination.proofs.Split.{put_back, row_front}
use Rattle.elimination.proofs.Walks.{located_ok, located_err, leaves_ok, leaves_err, lines_end, forward_more, forward_stop}
use Rattle.elimination.proofs.steps.go_forward.Goals as goal

pub offset_bounds-rows-row : goal.offset_bounds-rows-row
offset_bounds-rows-row g c =
    let n = c.args.held.n in
    let up = row_next n c.loop-j.j (length c.args.held.entries.now) c.loop-j-test.true in
    let inside : c.row.result.start + wide n ≤ length c.split_at_mut-rows.result.0.now = omega (arith, c.row.ensures.start, up, c.split_at_mut-rows.ensures.front_len, c.working_row.ensures.start) in
    search rules

pub loop-j-init : goal.loop-j-init
loop-j-init g c =
    let K = g.K.Number.kind in
    let n = c.args.held.n in
    let h = length c.args.held.entries.now in
    let m = c.args.memory.now in
    let fits : row_place n h + wide n ≤ length m = let f = row_fits n h c.args.held.held in omega (arith, f, c.requires.room) in
    let is : take c.width.result c.split_at_mut-rows.result.1.now ≡ row_at n m h = ap₂ take c.width.ensures (c.split_at_mut-rows.ensures.back ∙ ap (λ i. drop i m) c.working_row.ensures.start) in
    record { rows = ap (forward K 1 _) (sym is); width = ap length is ∙ row_length n h m fits }

pub loop-j-preserved : goal.loop-j-preserved
loop-j-preserved g c =
    let K = g.K.Number.kind in
    let n = c.args.held.n in
    let es = c.args.held.entries.now in
    let h = length es in
    let j = c.loop-j.j in
    let m = c.args.memory.now in
    let s = c.from.result in
    let w = c.loop-j.w in
    let v = c.clear_column.new.w in
    let front = c.split_at_mut-rows.ensures.front ∙ ap (λ i. take i m) c.working_row.ensures.start in
    let rows = c.split_at_mut-rows.result.0.now in
    let row = part (wide n) c.row.ensures.start c.row.ensures.end rows ∙ row_front n h j c.loop-j-test.true m rows front in
    let e = located_ok Forward (j + 1) (cleared K s w (take (c.row.result.end - c.row.result.start) (drop c.row.result.start rows))) c.clear_column.result v c.clear_column.ensures.answer c.clear_column.ensures.made
    (sym c.at_place.ensures ∙ c.in_ok-at_place.was) in
    record {
      rows = c.loop-j.invariant.rows ∙ forward_more K n m es j c.loop-j-test.true w v (ap₂ (λ i r. located Forward (j + 1) (cleared K i w r)) (sym c.from.ensures) (sym row) ∙ e);
      width = c.clear_column.auto.w ∙ c.loop-j.invariant.width;
    }

pub returns : goal.returns
returns g c =
    let K = g.K.Number.kind in
    let n = c.args.held.n in
    let es = c.args.held.entries.now in
    let h = length es in
    let m = c.args.memory.now in
    let w = c.loop-j.w in
    let at = c.working_row.ensures.start in
    let halves = c.split_at_mut-rows.ensures in
    let fits : row_place n h + wide n ≤ length m = let f = row_fits n h c.args.held.held in omega (arith, f, c.requires.room) in
    let new = put_back (row_place n h) m _ _ w (halves.front ∙ ap (λ i. take i m) at) (halves.back ∙ ap (λ i. drop i m) at) c.width.ensures in
    let own = ap (λ u. row_at n u h) new ∙ part_own (row_place n h) (wide n) m w fits c.loop-j.invariant.width in
    let all = c.loop-j.invariant.rows ∙ ap (λ hs. forward K (c.loop-j.j + 1) hs w) (lines_end n m es c.loop-j.j c.loop-j-test.false) in
    record {
      answer = sym (ap done all);
      made = leaves_ok _ _ (all ∙ ap Ok (sym own));
      only = subst (OnlyRow n h m) (sym new) (only_put n h m w fits c.loop-j.invariant.width);
    }

pub returns-in_err-at_place : goal.returns-in_err-at_place
returns-in_err-at_place g c =
    let K = g.K.Number.kind in
    let n = c.args.held.n in
    let es = c.args.held.entries.now in
    let h = length es in
    let j = c.loop-j.j in
    let m = c.args.memory.now in
    let s = c.from.result in
    let w = c.loop-j.w in
    let v = c.clear_column.new.w in
    let at = c.working_row.ensures.start in
    let halves = c.split_at_mut-rows.ensures in
    let rows = c.split_at_mut-rows.result.0.now in
    let front = halves.front ∙ ap (λ i. take i m) at in
    let row = part (wide n) c.row.ensures.start c.row.ensures.end rows ∙ row_front n h j c.loop-j-test.true m rows front in
    let fits : row_place n h + wide n ≤ length m = let f = row_fits n h c.args.held.held in omega (arith, f, c.requires.room) in
    let long = c.clear_column.auto.w ∙ c.loop-j.invariant.width in
    let new = put_back (row_place n h) m _ _ v front (halves.back ∙ ap (λ i. drop i m) at) c.width.ensures in
    let f = c.in_err-at_place.field-0.0 in
    let p = err_from_is_err_and c.from_residual.result c.from_residual.ensures.1 in
    let e = located_err Forward (j + 1) (cleared K s w (take (c.row.result.end - c.row.result.start) (drop c.row.result.start rows))) c.clear_column.result f c.clear_column.ensures.answer
    (sym c.at_place.ensures ∙ c.in_err-at_place.was) in
    let all = c.loop-j.invariant.rows ∙ forward_stop K n m es j c.loop-j-test.true w f (ap₂ (λ i r. located Forward (j + 1) (cleared K i w r)) (sym c.from.ensures) (sym row) ∙ e) in
    record { answer = p.1 ∙ ap Err p.2 ∙ sym (ap done all); made = leaves_err _ f _ all; only = subst (OnlyRow n h m) (sym new) (only_put n h m v fits long) }
