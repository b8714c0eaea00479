use Rattle.std.proofs.Common.{◌≡◌, ◌+◌}
use Rattle.sheet.proofs.Checking.{Going}
use Rattle.sheet.proofs.sheet.Sheet.check.Given as goal

abbrev pub invariant-loop-i : goal.invariant-loop-i
invariant-loop-i g l =
    (l.i-iterator.iter.size ≡ l.n + 1)
    × Going g.K.Number.kind l.list l.first (l.n + 1) l.initial.self l.initial.records l.i-iterator.count l.i-iterator.iter.rest.now l.self l.records
