use Rattle.std.proofs.Common.{◌≡◌, ◌+◌, ◌-◌, ◌≤◌, ◌++◌, length, take, drop, Ok, Err, sym, ap, ◌∙◌, subst, ap₂, arith, length-append, length-drop, take-append-drop}
use borrow.Rule.Slice.PartMut.{put_mid, same_len_mid}
use Rattle.std.proofs.lemmas.List.{drop_at}
use Rattle.std.proofs.lemmas.Result.{err_from_is_err_and}
use Rattle.rows.specs.Row.{done, cleared}
use Rattle.elimination.specs.declared.fault.Step.TheVariants.{Back}
use Rattle.elimination.specs.Held.{wide, needed, row_place, row_of, lines_of}
use Rattle.elimination.specs.Steps.{located}
use Rattle.elimination.proofs.Back.{Gone, gone_start, gone_more, gone_stop, gone_all}
use Rattle.elimination.proofs.Places.{row_next, row_fits, row_length}
use Rattle.elimination.proofs.Ranges.{part, put}
use Rattle.elimination.proofs.Split.{put_front, row_joined}
use Rattle.elimination.proofs.Walks.{located_ok, located_err, leaves_ok, leaves_err}
use Rattle.elimination.proofs.backstep.go_back.Goals as goal

pub loop-j-init : goal.loop-j-init
loop-j-init g c =
    let K = g.K.Number.kind in
    let n = c.args.held.n in
    let es = c.args.held.entries.now in
    let at = row_place n (length es) in
    let m = c.args.memory.now in
    let halves = c.split_at_mut-rows.ensures in
    let start = c.working_row.ensures.start in
    let whole : c.split_at_mut-rows.result.0.now ++ drop at m ≡ m = ap (λ l. l ++ drop at m) (halves.front ∙ ap (λ i. take i m) start) ∙ take-append-drop at m in
    record { size = halves.front_len ∙ start; rows = subst (Gone K c.args.q n (row_of c.args.held m) es m 0) (sym whole) (gone_start K c.args.q n (row_of c.args.held m) es m) }

pub loop-j-preserved : goal.loop-j-preserved
loop-j-preserved g c =
    let K = g.K.Number.kind in
    let n = c.args.held.n in
    let q = c.args.q in
    let es = c.args.held.entries.now in
    let h = length es in
    let at = row_place n h in
    let j = c.loop-j.j in
    let m₀ = c.args.memory.now in
    let ys = drop at m₀ in
    let rows = c.loop-j.rows in
    let size = c.loop-j.invariant.size in
    let m = rows ++ ys in
    let w = row_of c.args.held m₀ in
    let v = c.clear_column.new.w in
    let up = row_next n j h c.loop-j-test.true in
    let own = part (wide n) c.row.ensures.start c.row.ensures.end rows in
    let row = own ∙ sym (row_joined n h j c.loop-j-test.true rows ys size) in
    let by = ap₂ take c.width.ensures (c.split_at_mut-rows.ensures.back ∙ ap (λ i. drop i m₀) c.working_row.ensures.start) in
    let f = row_fits n h c.args.held.held in
    let room : needed n ≤ length m = let a = length-append rows ys in let d = length-drop at m₀ in omega (arith, a, d, f, size, c.requires.room) in
    let long : length v ≡ wide n = c.clear_column.auto.w ∙ ap length own ∙ row_length n j rows (omega (arith, up, size)) in
    let e = located_ok Back (j + 1) (cleared K q (take (c.row.result.end - c.row.result.start) (drop c.row.result.start rows)) (take c.width.result c.split_at_mut-rows.result.1.now)) c.clear_column.result v
    c.clear_column.ensures.answer c.clear_column.ensures.made (sym c.at_place.ensures ∙ c.in_ok-at_place.was) in
    let new = put (wide n) c.row.ensures.start c.row.ensures.end rows v in
    record {
      size = same_len_mid _ _ rows v c.clear_column.auto.w ∙ size;
      rows = subst (Gone K q n w es m₀ (j + 1)) (put_front (row_place n j) (wide n) rows ys v (omega (arith, up, size)) ∙ ap (λ l. l ++ ys) (sym new))
          (gone_more K q n w es m j c.loop-j-test.true c.args.held.held room v long m₀ (ap₂ (λ r u. located Back (j + 1) (cleared K q r u)) (sym row) (sym by) ∙ e) c.loop-j.invariant.rows);
    }

pub returns : goal.returns
returns g c =
    let K = g.K.Number.kind in
    let n = c.args.held.n in
    let es = c.args.held.entries.now in
    let at = row_place n (length es) in
    let m₀ = c.args.memory.now in
    let rows = c.loop-j.rows in
    let rest = c.split_at_mut-rows.ensures.back ∙ ap (λ i. drop i m₀) c.working_row.ensures.start in
    let all = gone_all K c.args.q n (row_of c.args.held m₀) es m₀ (rows ++ drop at m₀) c.loop-j.j c.loop-j-test.false c.loop-j.invariant.rows in
    record {
      answer = sym (ap done all);
      made = leaves_ok _ _ (all ∙ ap (λ l. Ok (lines_of c.args.held (rows ++ l))) (sym rest));
      rest = drop_at rows c.split_at_mut-rows.result.1.now at c.loop-j.invariant.size ∙ rest;
    }

pub returns-in_err-at_place : goal.returns-in_err-at_place
returns-in_err-at_place g c =
    let K = g.K.Number.kind in
    let n = c.args.held.n in
    let q = c.args.q in
    let es = c.args.held.entries.now in
    let h = length es in
    let at = row_place n h in
    let j = c.loop-j.j in
    let m₀ = c.args.memory.now in
    let ys = drop at m₀ in
    let rows = c.loop-j.rows in
    let size = c.loop-j.invariant.size in
    let m = rows ++ ys in
    let w = row_of c.args.held m₀ in
    let v = c.clear_column.new.w in
    let row = part (wide n) c.row.ensures.start c.row.ensures.end rows ∙ sym (row_joined n h j c.loop-j-test.true rows ys size) in
    let rest = c.split_at_mut-rows.ensures.back ∙ ap (λ i. drop i m₀) c.working_row.ensures.start in
    let by = ap₂ take c.width.ensures rest in
    let f = c.in_err-at_place.field-0.0 in
    let p = err_from_is_err_and c.from_residual.result c.from_residual.ensures.1 in
    let e = located_err Back (j + 1) (cleared K q (take (c.row.result.end - c.row.result.start) (drop c.row.result.start rows)) (take c.width.result c.split_at_mut-rows.result.1.now)) c.clear_column.result f
    c.clear_column.ensures.answer (sym c.at_place.ensures ∙ c.in_err-at_place.was) in
    let all = gone_stop K q n w es m j c.loop-j-test.true m₀ f (ap₂ (λ r u. located Back (j + 1) (cleared K q r u)) (sym row) (sym by) ∙ e) c.loop-j.invariant.rows in
    record {
      answer = p.1 ∙ ap Err p.2 ∙ sym (ap done all);
      made = leaves_err _ f _ all;
      rest = drop_at (put_mid c.row.result.start (c.row.result.end - c.row.result.start) rows v) c.split_at_mut-rows.result.1.now at (same_len_mid _ _ rows v c.clear_column.auto.w ∙ size) ∙ rest;
    }
