use Rattle.std.proofs.Common.{◌≡◌, ◌+◌, length, drop}
use Rattle.std.specs.Slice.Iter.{chunks_exact_rest, chunks_exact_size}
use Rattle.rows.specs.Row.{done}
use Rattle.elimination.specs.Held.{wide, row_place, held_lines, lines_of, row_of}
use Rattle.elimination.specs.Steps.{back}
use Rattle.elimination.proofs.backstep.would_go_back.Given as goal

abbrev pub invariant-loop-j : goal.invariant-loop-j
invariant-loop-j g l =
    let K = g.K.Number.kind in
    let h = l.held in
    let m = l.memory in
    let j = l.j-iterator.count in
    record {
      rest : chunks_exact_rest l.j-iterator.iter.iter ≡ drop (row_place h.n j) m;
      width : chunks_exact_size l.j-iterator.iter.iter ≡ wide h.n;
      left : l.j-iterator.iter.n + j ≡ length h.entries.now;
      by : l.w ≡ row_of h m;
      rows : done (back K l.q 1 (row_of h m) (lines_of h m)) ≡ done (back K l.q (j + 1) (row_of h m) (held_lines h.n m j (drop j h.entries.now)));
    }
