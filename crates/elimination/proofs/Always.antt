-- Over a kind that holds all its admitted numbers no step stops.
use Rattle.std.proofs.Common.{◌≡◌, ℕ, zero, suc, ◌+◌, Bool, true, false, cond, eqb, ltb, List, [], ◌∷◌, map, length, ℤ, Some, None, Ok, Err, Option, Result, sym, refl, ap, ◌∙◌, subst, arith}
use Rattle.exact.specs.Fraction.{Fraction}
use Rattle.exact.specs.Kind.{Kind, Lawful}
use Rattle.exact.specs.Answers.{value_of}
use Rattle.rows.specs.declared.fault.RowFault.{RowFault}
use Rattle.rows.specs.Row.{at, done, cleared, over_row, highest}
use Rattle.rows.proofs.Ops.{cleared_always, over_always}
use Rattle.elimination.specs.declared.fault.Step.{Step}
use Rattle.elimination.specs.declared.fault.Step.TheVariants.{Forward, Divide, Back}
use Rattle.elimination.specs.declared.fault.StepFault.{StepFault}
use Rattle.elimination.specs.declared.fault.SheetFault.{SheetFault}
use Rattle.elimination.specs.declared.fault.SheetFault.TheVariants as fault
use Rattle.elimination.specs.Held.{HeldLine}
use Rattle.elimination.specs.Refusals.{over_limit, label_fits, limited, refusal}
use Rattle.elimination.specs.Stating.{unless, stating, course}
use Rattle.elimination.specs.Steps.{follows, clash, located, then, opening, forward, subject, with_row, back, rows_after, holding, added, evidence, judged, reduced, steps}
use Rattle.elimination.specs.Outcome.{found, solved_for, looked, outcome_of, work}
use Rattle.elimination.proofs.Walks.{made_from}

-- an answer that is no fault of the numbers
abbrev Sure : Result (Option ℕ) SheetFault → Type 0
Sure r = (f : StepFault) → r ≡ Err (fault.Numbers f) → ⊥

limited_sure : (o : Option ℕ) (f : StepFault) → limited o ≡ Err (fault.Numbers f) → ⊥
limited_sure (Some p) f e = let z : ◌≡◌ {A = ℕ} 0 1 = cc in omega arith
limited_sure None f e = let z : ◌≡◌ {A = ℕ} 0 1 = cc in omega arith

-- the refusals before the steps are none of the numbers
refusal_sure : (n h : ℕ) (line : List ℤ) (label room : ℕ) (f : StepFault) → refusal n h line label room ≡ Err (fault.Numbers f) → ⊥
unfolding refusal
refusal_sure n h line label room f = go (eqb (length line) (n + 1)) (ltb h room) (label_fits label)
  where
    go : (a b c : Bool) → cond a (cond b (cond c (limited (over_limit n 0 line)) (Err fault.Label)) (Err fault.Room)) (Err fault.Length) ≡ Err (fault.Numbers f) → ⊥
    go true true true e = limited_sure (over_limit n 0 line) f e
    go true true false e = let z : ◌≡◌ {A = ℕ} 0 1 = cc in omega arith
    go true false c e = let z : ◌≡◌ {A = ℕ} 0 1 = cc in omega arith
    go false b c e = let z : ◌≡◌ {A = ℕ} 0 1 = cc in omega arith

located_sure : {X : Type 0} (s : Step) (p : ℕ) (r : Result X RowFault) → done r ≡ Ok tt → (x : X) × (located s p r ≡ Ok x)
located_sure s p r e = let m = made_from r e in (m.0, ap (located s p) m.1)

module _ {V : Type 0} {K : Kind V} {admits : Fraction → Type 0} {alike : Fraction → Fraction → Type 0} {complete : Bool} (laws : Lawful K admits alike complete) (all : complete ≡ true) where
  forward_always : (p : ℕ) (hs : List (HeldLine V)) (w : List V) → (v : List V) × (forward K p hs w ≡ Ok v)
  forward_always p [] w = (w, refl)
  forward_always p (h ∷ hs) w =
      let x = located_sure Forward p (cleared K h.subject w h.row) (cleared_always laws all h.subject w h.row) in
      let y = forward_always (p + 1) hs x.0 in
      (y.0, ap (λ r. then r (forward K (p + 1) hs)) x.1 ∙ y.1)

  back_always : (q p : ℕ) (w : List V) (hs : List (HeldLine V)) → (gs : List (HeldLine V)) × (back K q p w hs ≡ Ok gs)
  back_always q p w [] = ([], refl)
  back_always q p w (h ∷ hs) =
      let x = located_sure Back p (cleared K q h.row w) (cleared_always laws all q h.row w) in
      let y = back_always q (p + 1) w hs in
      (with_row K h x.0 ∷ y.0, ap (λ r. then r (λ u. then (back K q (p + 1) w hs) (λ rest. Ok (with_row K h u ∷ rest)))) x.1 ∙ ap (λ r. then r (λ rest. Ok (with_row K h x.0 ∷ rest))) y.1)

  highest_nonzero : (m q : ℕ) (w : List V) → highest K m w ≡ Some q → K.is_zero (at K w q) ≡ false
  highest_nonzero zero q w e = let z : ◌≡◌ {A = ℕ} 0 1 = cc in absurd (omega arith)
  highest_nonzero (suc m) q w e = go (K.is_zero (at K w m)) refl (λ d. highest_nonzero m q w d) e
    where
      go : (b : Bool) → K.is_zero (at K w m) ≡ b → (highest K m w ≡ Some q → K.is_zero (at K w q) ≡ false) → cond b (highest K m w) (Some m) ≡ Some q → K.is_zero (at K w q) ≡ false
      go true t r d = r d
      go false t r d = let s : m ≡ q = cc in subst (λ k. K.is_zero (at K w k) ≡ false) s t

  holding_always : (q : ℕ) (hs : List (HeldLine V)) (w : List V) → K.is_zero (at K w q) ≡ false → (rows : List V × List (HeldLine V)) × (holding K q hs w ≡ Ok rows)
  unfolding holding
  holding_always q hs w z =
      let x = located_sure Divide 0 (over_row K (at K w q) w) (over_always laws all (at K w q) z w) in
      let y = back_always q 1 x.0 hs in
      ((x.0, y.0), ap (λ r. then r (rows_after K q hs)) x.1 ∙ ap (λ r. then r (λ others. Ok (x.0, others))) y.1)

  module _ (n : ℕ) (hs : List (HeldLine V)) (label : ℕ) (line : List V) where
    spent_sure : (w : List V) → Sure (course (judged K n hs label line w None))
    spent_sure w f = go (K.is_zero (at K w n))
      where
        go : (b : Bool) → course (cond b follows (clash (evidence K n hs label w))) ≡ Err (fault.Numbers f) → ⊥
        go true e = let z : ◌≡◌ {A = ℕ} 0 1 = cc in omega arith
        go false e = let z : ◌≡◌ {A = ℕ} 0 1 = cc in omega arith

    judged_sure : (w : List V) (b : Bool) → Sure (course (judged K n hs label line w (cond b (highest K n w) None)))
    judged_sure w false = spent_sure w
    judged_sure w true = go (highest K n w) refl
      where
        go : (o : Option ℕ) → highest K n w ≡ o → Sure (course (judged K n hs label line w o))
        go None e f d = spent_sure w f d
        go (Some q) e f d =
            let rows = holding_always q hs w (highest_nonzero n q w e) in
            let c = sym (ap (λ r. course (added K label line q r)) rows.1) ∙ d in
            let z : ◌≡◌ {A = ℕ} 0 1 = cc in omega arith

    steps_sure : Sure (course (steps K n hs label line))
    unfolding steps
    steps_sure f e =
        let x = forward_always 1 hs (opening K n (length hs) line) in
        judged_sure x.0 (ltb (length hs) n) f (sym (ap (λ r. course (reduced K n hs label line r)) x.1) ∙ e)

  pub stating_sure : (n : ℕ) (hs : List (HeldLine V)) (line : List ℤ) (label room : ℕ) (f : StepFault) → course (stating K n hs line label room) ≡ Err (fault.Numbers f) → ⊥
  stating_sure n hs line label room f = go (refusal n (length hs) line label room) (refusal_sure n (length hs) line label room f)
    where
      go : (r : Result Unit SheetFault) → (r ≡ Err (fault.Numbers f) → ⊥) → course (unless r (steps K n hs label (map (value_of K) line))) ≡ Err (fault.Numbers f) → ⊥
      go (Ok u) k e = steps_sure n hs label (map (value_of K) line) f e
      go (Err g) k e = k (let d : g ≡ fault.Numbers f = cc in ap Err d)

  looked_sure : (hs : List (HeldLine V)) (w : List V) (o : Option ℕ) → ((q : ℕ) → o ≡ Some q → K.is_zero (at K w q) ≡ false) → (f : StepFault) → found (looked K hs w o) ≡ Err f → ⊥
  looked_sure hs w None z f e = let d : ◌≡◌ {A = ℕ} 0 1 = cc in omega arith
  looked_sure hs w (Some q) z f e =
      let rows = holding_always q hs w (z q refl) in
      let c = sym (ap (λ r. found (solved_for K q r)) rows.1) ∙ e in
      let d : ◌≡◌ {A = ℕ} 0 1 = cc in omega arith

  subject_nonzero : (n h : ℕ) (w : List V) (b : Bool) (q : ℕ) → cond b (highest K n w) None ≡ Some q → K.is_zero (at K w q) ≡ false
  subject_nonzero n h w true q e = highest_nonzero n q w e
  subject_nonzero n h w false q e = let d : ◌≡◌ {A = ℕ} 0 1 = cc in absurd (omega arith)

  pub work_always : (n : ℕ) (hs : List (HeldLine V)) (w : List V) (f : StepFault) → found (work K n hs w) ≡ Err f → ⊥
  unfolding work
  work_always n hs w f e =
      let x = forward_always 1 hs w in
      looked_sure hs x.0 (subject K n (length hs) x.0) (subject_nonzero n (length hs) x.0 (ltb (length hs) n)) f (sym (ap (λ r. found (outcome_of K n hs r)) x.1) ∙ e)
