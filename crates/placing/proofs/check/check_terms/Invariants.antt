use Rattle.std.proofs.Common.{ℕ, ◌<◌}
use Rattle.placing.specs.Terms.{Good}
use Rattle.placing.proofs.check.check_terms.Given as goal

abbrev pub invariant-loop-k : goal.invariant-loop-k
invariant-loop-k l = (j : ℕ) → j < l.k → Good l.terms l.n j
