use Rattle.std.proofs.Common.{◌≡◌, length}
use Rattle.cutting.specs.Taken.{left, named}
use Rattle.cutting.proofs.lines.Lines.next_line.Given as goal

abbrev pub invariant-loop-bytes : goal.invariant-loop-bytes
invariant-loop-bytes l = named l.self ≡ named l.initial.self

abbrev pub decreases-loop-bytes : goal.decreases-loop-bytes
decreases-loop-bytes l = length (left l.self)
