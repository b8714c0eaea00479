use Rattle.std.proofs.Common.{◌≡◌, ◌+◌, length, drop}
use Rattle.elimination.specs.Held.{wide, held_lines, lines_of, row_of}
use Rattle.elimination.specs.Steps.{forward}
use Rattle.elimination.proofs.steps.go_forward.Given as goal

abbrev pub invariant-loop-j : goal.invariant-loop-j
invariant-loop-j g l =
    let K = g.K.Number.kind in
    let h = l.held in
    let m₀ = l.fn.memory in
    record { rows : forward K 1 (lines_of h m₀) (row_of h m₀) ≡ forward K (l.j + 1) (held_lines h.n m₀ l.j (drop l.j h.entries.now)) l.w; width : length l.w ≡ wide h.n }
