use Rattle.std.proofs.Common.{ℕ}
use Rattle.sheet_tests.proofs.trials.+opened_at_once.Given as goal

abbrev pub decreases-opened_at_once : goal.decreases-opened_at_once
decreases-opened_at_once g l = l.left
