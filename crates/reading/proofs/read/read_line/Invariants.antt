use Rattle.std.proofs.Common.{◌≡◌, ◌≤◌, length, take}
use Rattle.reading.proofs.Loop.{Sofar}
use Rattle.reading.proofs.read.read_line.Given as goal

abbrev pub invariant-loop-i : goal.invariant-loop-i
invariant-loop-i l = Sofar l.text l.i l.stage (take l.count l.places) × (l.count ≤ l.i) × (length l.places ≡ 200)
