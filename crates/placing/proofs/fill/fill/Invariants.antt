use Rattle.std.proofs.Common.{◌≡◌, ◌++◌, drop}
use Rattle.placing.specs.Numbers.{coefficients}
use Rattle.placing.proofs.fill.fill.Given as goal

abbrev pub invariant-loop-i : goal.invariant-loop-i
invariant-loop-i l = l.x-items ≡ coefficients l.terms 1 l.i ++ drop l.i l.initial.x-items
