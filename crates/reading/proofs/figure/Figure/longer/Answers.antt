use Rattle.std.proofs.Common.{arith, rules}
use Rattle.reading.proofs.Bounds.{low, longer}
use Rattle.reading.proofs.figure.Figure.longer.Goals as goal

pub overflow_mul-result : goal.overflow_mul-result
overflow_mul-result c = let h = low _ _ c.self.invariant.0.0 (omega arith) in search rules

pub overflow_add-result : goal.overflow_add-result
overflow_add-result c = let h = low _ _ c.self.invariant.0.0 (omega arith) in search rules

pub invariant_of-result : goal.invariant_of-result
invariant_of-result c =
    let i = c.self.invariant in
    ((longer _ c.self.inside.left _ _ i.0.0 (omega arith) i.1 (omega arith), i.0.1), omega arith)
