use Rattle.std.proofs.Common.{◌≡◌, ℕ, List, ◌+◌, ◌<◌, ◌≤◌, ◌++◌, length, take, drop, Err, sym, ap, ◌∙◌, ap₂, arith, length-drop, drop-drop}
use Rattle.std.specs.Slice.Iter.{chunks_exact_rest}
use Rattle.std.proofs.lemmas.List.{take_at, drop_at}
use Rattle.std.proofs.lemmas.Result.{err_from_is_err_and}
use native.Mathlib.Decide.{dec_lt}
use Rattle.rows.specs.Row.{done, cleared}
use Rattle.elimination.specs.declared.fault.Step.TheVariants.{Back}
use Rattle.elimination.specs.Held.{wide, needed, row_place, row_at, held_lines, row_of}
use Rattle.elimination.specs.Steps.{located, back}
use Rattle.elimination.proofs.Back.{would_more, back_stop}
use Rattle.elimination.proofs.Places.{row_after, row_fits}
use Rattle.elimination.proofs.Walks.{located_made, located_err, lines_end}
use Rattle.elimination.proofs.backstep.would_go_back.Goals as goal

-- no chunk is left where the rows of all places were looked at
all_seen : {V : Type 0} (n j left count width : ℕ) (m rest : List V) → rest ≡ drop (row_place n j) m → width ≡ wide n → left + j ≡ count → count ≤ n → needed n ≤ length m → (0 < left → length rest < width) → count ≤ j
all_seen n j left count width m rest is long sum few room short = go (dec_lt 0 left)
  where
    go : Dec (0 < left) → count ≤ j
    go (yes b) = let a = short b in let d = ap length is ∙ length-drop (row_place n j) m in let f = row_fits n j (omega (arith, sum, few)) in absurd (omega (arith, a, d, f, long, room))
    go (no b) = omega (arith, b, sum)

pub loop-j-preserved : goal.loop-j-preserved
loop-j-preserved g c =
    let K = g.K.Number.kind in
    let n = c.args.held.n in
    let q = c.args.q in
    let es = c.args.held.entries.now in
    let m = c.args.memory.now in
    let w = row_of c.args.held m in
    let j = c.loop-j.j-iterator.count in
    let s = c.loop-j.invariant in
    let step = c.in-Some.ensures.steps in
    let row = c.in-Some.row.now in
    let rest = chunks_exact_rest c.next.new.self.iter.iter in
    let before : j < length es = omega (arith, s.left, step.0.1) in
    let long : length row ≡ wide n = step.0.0.1.1 ∙ s.width in
    let parts : row ++ rest ≡ drop (row_place n j) m = sym step.0.0.1.0 ∙ s.rest in
    let row_is : row ≡ row_at n m j = sym (take_at row rest (wide n) long) ∙ ap (take (wide n)) parts in
    let answer = c.would_clear_column.ensures.answer ∙ ap₂ (λ a b. done (cleared K q a b)) row_is s.by in
    let place = ap (λ i. located Back (i + 1) c.would_clear_column.result) (sym step.1) ∙ sym c.at_place.ensures in
    let e = located_made Back (j + 1) (cleared K q (row_at n m j) w) c.would_clear_column.result answer (place ∙ c.in_ok-at_place.was) in
    record {
      rest = sym (drop_at row rest (wide n) long) ∙ ap (drop (wide n)) parts ∙ drop-drop (wide n) (row_place n j) m ∙ ap (λ i. drop i m) (sym (row_after n j)) ∙ ap (λ i. drop (row_place n i) m) (sym step.2);
      width = step.0.0.0 ∙ s.width;
      left = omega (arith, s.left, step.0.1, step.2);
      by = s.by;
      rows = s.rows ∙ would_more K q n w es m j before e.0 e.1 ∙ ap (λ i. done (back K q (i + 1) w (held_lines n m i (drop i es)))) (sym step.2);
    }

pub returns : goal.returns
returns g c =
    let K = g.K.Number.kind in
    let n = c.args.held.n in
    let es = c.args.held.entries.now in
    let m = c.args.memory.now in
    let w = row_of c.args.held m in
    let j = c.loop-j.j-iterator.count in
    let s = c.loop-j.invariant in
    let step = c.in-None.ensures.steps in
    let over = all_seen n j c.loop-j.j-iterator.iter.n (length es) _ m _ s.rest s.width s.left c.args.held.held c.requires.room (λ b. (step.0 b).1.0) in
    sym (s.rows ∙ ap (λ hs. done (back K c.args.q (j + 1) w hs)) (lines_end n m es j over))

pub returns-in_err-at_place : goal.returns-in_err-at_place
returns-in_err-at_place g c =
    let K = g.K.Number.kind in
    let n = c.args.held.n in
    let q = c.args.q in
    let es = c.args.held.entries.now in
    let m = c.args.memory.now in
    let w = row_of c.args.held m in
    let j = c.loop-j.j-iterator.count in
    let s = c.loop-j.invariant in
    let step = c.in-Some.ensures.steps in
    let row = c.in-Some.row.now in
    let rest = chunks_exact_rest c.next.new.self.iter.iter in
    let before : j < length es = omega (arith, s.left, step.0.1) in
    let long : length row ≡ wide n = step.0.0.1.1 ∙ s.width in
    let parts : row ++ rest ≡ drop (row_place n j) m = sym step.0.0.1.0 ∙ s.rest in
    let row_is : row ≡ row_at n m j = sym (take_at row rest (wide n) long) ∙ ap (take (wide n)) parts in
    let answer = c.would_clear_column.ensures.answer ∙ ap₂ (λ a b. done (cleared K q a b)) row_is s.by in
    let place = ap (λ i. located Back (i + 1) c.would_clear_column.result) (sym step.1) ∙ sym c.at_place.ensures in
    let f = c.in_err-at_place.field-0.0 in
    let p = err_from_is_err_and c.from_residual.result c.from_residual.ensures.1 in
    let e = located_err Back (j + 1) (cleared K q (row_at n m j) w) c.would_clear_column.result f answer (place ∙ c.in_err-at_place.was) in
    p.1 ∙ ap Err p.2 ∙ sym (s.rows ∙ ap done (back_stop K q n w es m j before f e))
