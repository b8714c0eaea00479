-- Stating held lines again.
use Rattle.std.specs.Prelude.{ℕ, List, [], ◌∷◌, Some, None, Option}
use Rattle.exact.specs.Kind.{Kind}
use Rattle.elimination.specs.Held.{HeldLine}
use Rattle.elimination.specs.Stating.{held_after}
use Rattle.elimination.specs.Steps.{Verdict, refused, follows, clash, taken, steps}

-- lines with their labels, stated one after the other over the held lines hs; one that is not taken is passed over
abbrev pub restated : {V : Type 0} → Kind V → (n : ℕ) → (hs : List (HeldLine V)) → List (HeldLine V) → List (HeldLine V)
restated K n hs [] = hs
restated K n hs (h ∷ more) = restated K n (held_after (steps K n hs h.label h.line) hs) more

-- ---- what the parts of it promise
-- the subject of a line that is held
abbrev pub taken_for : {V : Type 0} → Verdict V → Option ℕ
taken_for (refused f) = None
taken_for follows = None
taken_for (clash rs) = None
taken_for (taken q hs) = Some q
