-- The verdict on a line goes by what the steps make of its working row.
use Rattle.std.proofs.Common.{◌≡◌, ℕ, List, length, Some, None, Ok, Err, Option, Result, refl}
use Rattle.exact.specs.Kind.{Kind}
use Rattle.elimination.specs.declared.fault.StepFault.{StepFault}
use Rattle.elimination.specs.Held.{HeldLine}
use Rattle.elimination.specs.Steps.{forward, subject, holding, opening, added, judged, reduced, steps}
use Rattle.elimination.specs.Outcome.{solved_for, looked, outcome_of, work, verdict_of}

module _ {V : Type 0} (K : Kind V) (n : ℕ) (hs : List (HeldLine V)) (label : ℕ) (line : List V) where
  added_by : (q : ℕ) (r : Result (List V × List (HeldLine V)) StepFault) → added K label line q r ≡ verdict_of K n hs label line (solved_for K q r)
  added_by q (Ok rows) = refl
  added_by q (Err f) = refl

  judged_by : (w : List V) (o : Option ℕ) → judged K n hs label line w o ≡ verdict_of K n hs label line (looked K hs w o)
  judged_by w (Some q) = added_by q (holding K q hs w)
  judged_by w None = refl

  reduced_by : (r : Result (List V) StepFault) → reduced K n hs label line r ≡ verdict_of K n hs label line (outcome_of K n hs r)
  reduced_by (Ok w) = judged_by w (subject K n (length hs) w)
  reduced_by (Err f) = refl

  pub steps_by_work : steps K n hs label line ≡ verdict_of K n hs label line (work K n hs (opening K n (length hs) line))
  unfolding steps work
  steps_by_work = reduced_by (forward K 1 hs (opening K n (length hs) line))
