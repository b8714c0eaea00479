-- Divide and back, one after the other.
use Rattle.std.proofs.Common.{◌≡◌, ℕ, List, Ok, Err, ap, ◌∙◌}
use Rattle.exact.specs.Kind.{Kind}
use Rattle.elimination.specs.declared.fault.StepFault.{StepFault}
use Rattle.elimination.specs.Held.{HeldLine}
use Rattle.elimination.specs.Steps.{then, divided, back, rows_after, holding}

module _ {V : Type 0} (K : Kind V) (q : ℕ) (hs : List (HeldLine V)) (w : List V) where
  pub divide_stops : (f : StepFault) → divided K q w ≡ Err f → holding K q hs w ≡ Err f
  unfolding holding
  divide_stops f e = ap (λ r. then r (rows_after K q hs)) e

  module _ (v : List V) (e : divided K q w ≡ Ok v) where
    pub back_stops : (f : StepFault) → back K q 1 v hs ≡ Err f → holding K q hs w ≡ Err f
    unfolding holding
    back_stops f d = ap (λ r. then r (rows_after K q hs)) e ∙ ap (λ r. then r (λ others. Ok (v, others))) d

    pub both_made : (others : List (HeldLine V)) → back K q 1 v hs ≡ Ok others → holding K q hs w ≡ Ok (v, others)
    unfolding holding
    both_made others d = ap (λ r. then r (rows_after K q hs)) e ∙ ap (λ r. then r (λ others. Ok (v, others))) d
