use Rattle.std.proofs.Common.{◌≡◌, ◌+◌, ◌*◌, ◌<◌, ◌≤◌, min, length, get_or, set, Err, sym, refl, ap, ◌∙◌, subst, arith, rules}
use Rattle.rows.specs.Row.{placed, less_op, less_row, less_swept}
use Rattle.rows.specs.Table.{row_of}
use Rattle.rows.proofs.Ops.{less_inside, less_past, less_always}
use Rattle.rows.proofs.Sweeps.{placed_is, passed}
use Rattle.rows.proofs.Tables.{at_stop, at_end, Reached, reached_start, reached_more, row_number, table_after, row_long, number_of}
use Rattle.rows.proofs.table.subtract_row.Goals as goal

pub loop-i-init : goal.loop-i-init
loop-i-init g c = reached_start (less_op g.K.Number.kind c.args.f (row_of c.args.width c.args.table.now c.args.by)) c.args.width c.args.w c.args.table.now

pub loop-i-preserved : goal.loop-i-preserved
loop-i-preserved g c =
    let K = g.K.Number.kind in
    let a = c.args in
    let i = c.loop-i.i-counter in
    let m₀ = a.table.now in
    let m = c.loop-i.table in
    let r = row_of a.width m₀ a.by in
    let op = less_op K a.f r in
    let x = c.index-table-target.result in
    let y = c.index-table-source.result in
    let target : c.saturating_mul-target.result ≡ a.w * a.width = omega arith in
    let source : c.saturating_mul-source.result ≡ a.by * a.width = omega arith in
    let h : i < a.width = omega arith in
    let b : i < length r = let l = row_long a.width m₀ a.by in omega (arith, l) in
    let y_is : y ≡ get_or r i K.nil = number_of op a.width a.w m₀ i m c.loop-i.invariant a.by y K.nil h b (c.index-table-source.is ∙ ap (λ k. get_or m (k + i) y) source) in
    let said : c.map_err.result ≡ placed i (op i x) =
    placed_is i c.less_times-left.result c.map_err.result c.map_err.ensures.cases (λ e f p. search rules)
    ∙ ap (placed i) (c.less_times-left.ensures ∙ sym (less_inside K a.f r i x y b y_is)) in
    subst (λ k. Reached op a.width a.w m₀ (i + 1) (set m (k + i) c.in_ok-table.field-0)) (sym target)
    (reached_more op a.width a.w m₀ i m c.loop-i.invariant x c.in_ok-table.field-0 h (omega arith) (c.index-table-target.is ∙ ap (λ k. get_or m (k + i) x) target)
    (sym said ∙ c.in_ok-table.was))

pub returns : goal.returns
unfolding less_row less_swept
returns g c =
    let K = g.K.Number.kind in
    let a = c.args in
    let i = c.loop-i.i-counter in
    let m₀ = a.table.now in
    let m = c.loop-i.table in
    let r = row_of a.width m₀ a.by in
    let op = less_op K a.f r in
    let lw = row_long a.width m a.w in
    let lr = row_long a.width m₀ a.by in
    let far : min (length (row_of a.width m a.w)) (length r) ≤ i = omega (arith, lw, lr) in
    let e = at_end op (row_of a.width m₀ a.w) (row_of a.width m a.w) i (length r) far (less_past K a.f r) c.loop-i.invariant.row in
    record {
      answer = sym e.0;
      after = table_after op a.width a.w m₀ i m c.loop-i.invariant (omega arith) (less_swept K a.f (row_of a.width m₀ a.w) r) e.1;
      always = λ _. refl;
    }

pub returns-in_err-table : goal.returns-in_err-table
unfolding less_row less_swept
returns-in_err-table g c =
    let K = g.K.Number.kind in
    let a = c.args in
    let i = c.loop-i.i-counter in
    let m₀ = a.table.now in
    let m = c.loop-i.table in
    let w₀ = row_of a.width m₀ a.w in
    let r = row_of a.width m₀ a.by in
    let op = less_op K a.f r in
    let x = c.index-table-target.result in
    let y = c.index-table-source.result in
    let target : c.saturating_mul-target.result ≡ a.w * a.width = omega arith in
    let source : c.saturating_mul-source.result ≡ a.by * a.width = omega arith in
    let h : i < a.width = omega arith in
    let b : i < length r = let l = row_long a.width m₀ a.by in omega (arith, l) in
    let y_is : y ≡ get_or r i K.nil = number_of op a.width a.w m₀ i m c.loop-i.invariant a.by y K.nil h b (c.index-table-source.is ∙ ap (λ k. get_or m (k + i) y) source) in
    let said : c.map_err.result ≡ placed i (op i x) =
    placed_is i c.less_times-left.result c.map_err.result c.map_err.ensures.cases (λ e f p. search rules)
    ∙ ap (placed i) (c.less_times-left.ensures ∙ sym (less_inside K a.f r i x y b y_is)) in
    let f = c.in_err-table.field-0.0 in
    let says : c.from_residual.result ≡ Err f = passed c.from_residual.result f c.from_residual.ensures.1 in
    let inside : i < length (row_of a.width m a.w) = let l = row_long a.width m a.w in omega (arith, l, target) in
    let stop = at_stop op w₀ (row_of a.width m a.w) i x f inside (row_number op a.width a.w m₀ i m c.loop-i.invariant x h (c.index-table-target.is ∙ ap (λ k. get_or m (k + i) x) target))
    (sym said ∙ c.in_err-table.was) c.loop-i.invariant.row in
    record {
      answer = says ∙ sym stop.0;
      after = table_after op a.width a.w m₀ i m c.loop-i.invariant (omega arith) (less_swept K a.f w₀ r) stop.1;
      always = λ all. says ∙ sym stop.0 ∙ less_always g.K.Number.laws all a.f w₀ r;
    }
