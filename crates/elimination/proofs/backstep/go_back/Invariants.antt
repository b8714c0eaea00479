use Rattle.std.proofs.Common.{◌≡◌, length, ◌++◌, drop}
use Rattle.elimination.specs.Held.{row_place, row_of}
use Rattle.elimination.proofs.Back.{Gone}
use Rattle.elimination.proofs.backstep.go_back.Given as goal

abbrev pub invariant-loop-j : goal.invariant-loop-j
invariant-loop-j g l =
    let h = l.held in
    let m₀ = l.fn.memory in
    let at = row_place h.n (length h.entries.now) in
    record { size : length l.rows ≡ at; rows : Gone g.K.Number.kind l.q h.n (row_of h m₀) h.entries.now m₀ l.j (l.rows ++ drop at m₀) }
