use Rattle.std.proofs.Common.{◌≡◌, take, drop}
use Rattle.elimination.specs.Held.{lines_of}
use Rattle.sheet.specs.Reading.{constant_at, tabled}
use Rattle.sheet.proofs.reading.Rows.write_solution.Given as goal

abbrev pub invariant-loop-u : goal.invariant-loop-u
invariant-loop-u g l =
    (take l.u l.x-items ≡ tabled (constant_at g.K.Number.kind l.self.held.n (lines_of l.self.held l.self.memory.now)) l.u)
    × (drop l.u l.x-items ≡ drop l.u l.initial.x-items)
