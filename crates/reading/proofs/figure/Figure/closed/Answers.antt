use Rattle.std.proofs.Common.{arith}
use Rattle.reading.proofs.Bounds.{seven}
use Rattle.reading.proofs.figure.Figure.closed.Goals as goal

pub invariant_of-result : goal.invariant_of-result
invariant_of-result c = let i = c.self.invariant in (((seven _ _ i.0.0, omega arith), i.0.1), omega arith)
