use Rattle.std.proofs.Common.{◌≡◌, drop}
use Rattle.rows.specs.Row.{done, by_column, less_op}
use Rattle.rows.proofs.row.would_subtract.Given as goal

abbrev pub invariant-loop-i : goal.invariant-loop-i
invariant-loop-i g l =
    let op = less_op g.K.Number.kind l.f l.by in
    let i = l.i-iterator.count in
    record {
      ahead : l.i-iterator.iter.b.rest.now ≡ drop i l.by;
      answer : done (by_column op 0 l.w) ≡ done (by_column op i l.i-iterator.iter.a.rest.now);
    }
