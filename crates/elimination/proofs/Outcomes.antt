-- What the steps make of a working row.
use Rattle.std.proofs.Common.{◌≡◌, ℕ, Bool, true, false, cond, List, [], length, Some, None, Ok, Err, Option, Result, sym, refl, ap, ◌∙◌, subst, arith}
use Rattle.std.specs.Option.{option_flatten}
use Rattle.std.specs.Result.{result_ok}
use Rattle.exact.specs.Kind.{Kind}
use Rattle.ledger.specs.Listed.{Listed}
use Rattle.rows.specs.Row.{at}
use Rattle.elimination.specs.declared.fault.StepFault.{StepFault}
use Rattle.elimination.specs.declared.held.Held.{Held}
use Rattle.elimination.specs.Held.{HeldLine, lines_of}
use Rattle.elimination.specs.Stating.{held_after, entered}
use Rattle.elimination.specs.Steps.{follows, clash, evidence, forward, subject}
use Rattle.elimination.specs.Outcome.{Outcome, stuck, spent, solved, found, looked, outcome_of, work, verdict_of}
use Rattle.elimination.specs.Working.{HoldsRows, Left}
use Rattle.elimination.specs.Again.{taken_for}

module _ {V : Type 0} (r : Result (List V × List (HeldLine V)) StepFault) (h : Held) (m : List V) where
  pub rows_unheld : (f : StepFault) → r ≡ Err f → (m' : List V) → lines_of h m' ≡ lines_of h m → HoldsRows r h m m'
  rows_unheld f e m' s = subst (λ x. HoldsRows x h m m') (sym e) s

  pub rows_held : (rows : List V × List (HeldLine V)) → r ≡ Ok rows → (m' : List V) → HoldsRows (Ok rows) h m m' → HoldsRows r h m m'
  rows_held rows e m' s = subst (λ x. HoldsRows x h m m') (sym e) s

module _ {V : Type 0} (K : Kind V) (n : ℕ) (hs : List (HeldLine V)) (w : List V) where
  pub forward_stops : (f : StepFault) → forward K 1 hs w ≡ Err f → work K n hs w ≡ stuck f
  unfolding work
  forward_stops f e = ap (outcome_of K n hs) e

  pub went_on : (v : List V) (o : Option ℕ) → forward K 1 hs w ≡ Ok v → subject K n (length hs) v ≡ o → work K n hs w ≡ looked K hs v o
  unfolding work
  went_on v o e d = ap (outcome_of K n hs) e ∙ ap (looked K hs v) d

-- with no set point the row stays
pub nothing_left : {V : Type 0} (K : Kind V) (w : List V) → work K 0 [] w ≡ spent w
unfolding work
nothing_left K w = refl

-- ---- an outcome, by the subject that was found
pub found_fault : {V : Type 0} (o : Outcome V) (f : StepFault) → found o ≡ Err f → o ≡ stuck f
found_fault (stuck g) f e = let d : g ≡ f = cc in ap stuck d
found_fault (spent w) f e = let z : ◌≡◌ {A = ℕ} 0 1 = cc in absurd (omega arith)
found_fault (solved q w hs) f e = let z : ◌≡◌ {A = ℕ} 0 1 = cc in absurd (omega arith)

pub found_none : {V : Type 0} (o : Outcome V) → found o ≡ Ok None → (w : List V) × (o ≡ spent w)
found_none (stuck g) e = let z : ◌≡◌ {A = ℕ} 0 1 = cc in absurd (omega arith)
found_none (spent w) e = (w, refl)
found_none (solved q w hs) e = let z : ◌≡◌ {A = ℕ} 0 1 = cc in absurd (omega arith)

pub found_some : {V : Type 0} (o : Outcome V) (q : ℕ) → found o ≡ Ok (Some q) → (w : List V) × (hs : List (HeldLine V)) × (o ≡ solved q w hs)
found_some (stuck g) q e = let z : ◌≡◌ {A = ℕ} 0 1 = cc in absurd (omega arith)
found_some (spent w) q e = let z : ◌≡◌ {A = ℕ} 0 1 = cc in absurd (omega arith)
found_some (solved p w hs) q e = (w, hs, let d : p ≡ q = cc in ap (λ i. solved i w hs) d)

-- ---- a line that is spent changes nothing
pub spent_unmoved : {V : Type 0} (K : Kind V) (n : ℕ) (hs : List (HeldLine V)) (label : ℕ) (line w : List V) (l : Listed) (gs : List (HeldLine V)) → (entered (verdict_of K n hs label line (spent w)) label l ≡ l) × (held_after (verdict_of K n hs label line (spent w)) gs ≡ gs)
spent_unmoved K n hs label line w l gs = go (K.is_zero (at K w n))
  where
    go : (b : Bool) → (entered (cond b follows (clash (evidence K n hs label w))) label l ≡ l) × (held_after (cond b follows (clash (evidence K n hs label w))) gs ≡ gs)
    go true = (refl, refl)
    go false = (refl, refl)

pub spent_untaken : {V : Type 0} (K : Kind V) (n : ℕ) (hs : List (HeldLine V)) (label : ℕ) (line w : List V) → taken_for (verdict_of K n hs label line (spent w)) ≡ None
spent_untaken K n hs label line w = go (K.is_zero (at K w n))
  where
    go : (b : Bool) → taken_for (cond b follows (clash (evidence K n hs label w))) ≡ None
    go true = refl
    go false = refl

-- ---- the subject alone, if there is one
abbrev pub subject_found : {V : Type 0} → Outcome V → Option ℕ
subject_found o = option_flatten (result_ok (found o))

pub found_taken : {V : Type 0} (o : Outcome V) (q : ℕ) → subject_found o ≡ Some q → found o ≡ Ok (Some q)
found_taken (stuck f) q e = let z : ◌≡◌ {A = ℕ} 0 1 = cc in absurd (omega arith)
found_taken (spent w) q e = let z : ◌≡◌ {A = ℕ} 0 1 = cc in absurd (omega arith)
found_taken (solved p w hs) q e = ap Ok e

-- without one nothing is changed, and no line is taken
module _ {V : Type 0} (o : Outcome V) (none : subject_found o ≡ None) where
  pub untaken_left : (h : Held) (m m' : List V) → Left o h m m' → lines_of h m' ≡ lines_of h m
  untaken_left = go o none
    where
      go : (o : Outcome V) → subject_found o ≡ None → (h : Held) (m m' : List V) → Left o h m m' → lines_of h m' ≡ lines_of h m
      go (stuck f) e h m m' x = x
      go (spent w) e h m m' x = x.0
      go (solved p w hs) e h m m' x = let z : ◌≡◌ {A = ℕ} 0 1 = cc in absurd (omega arith)

  module _ (K : Kind V) (n : ℕ) (hs : List (HeldLine V)) (label : ℕ) (line : List V) where
    pub untaken_moves : (l : Listed) (gs : List (HeldLine V)) → (entered (verdict_of K n hs label line o) label l ≡ l) × (held_after (verdict_of K n hs label line o) gs ≡ gs)
    untaken_moves l gs = go o none
      where
        go : (o : Outcome V) → subject_found o ≡ None → (entered (verdict_of K n hs label line o) label l ≡ l) × (held_after (verdict_of K n hs label line o) gs ≡ gs)
        go (stuck f) e = (refl, refl)
        go (spent w) e = spent_unmoved K n hs label line w l gs
        go (solved p w gs) e = let z : ◌≡◌ {A = ℕ} 0 1 = cc in absurd (omega arith)

    pub untaken_is : taken_for (verdict_of K n hs label line o) ≡ None
    untaken_is = go o none
      where
        go : (o : Outcome V) → subject_found o ≡ None → taken_for (verdict_of K n hs label line o) ≡ None
        go (stuck f) e = refl
        go (spent w) e = spent_untaken K n hs label line w
        go (solved p w gs) e = let z : ◌≡◌ {A = ℕ} 0 1 = cc in absurd (omega arith)
