-- The reader's steps accept just the lines of the form.
use Rattle.std.proofs.Common.{◌≡◌, ℕ, zero, suc, ◌+◌, Bool, true, false, cond, ltb, ◌⊎◌, Option, None, Some, List, [], ◌∷◌, ◌++◌, map, sym, refl, ap, inl, inr, arith, ltb-true, lt-ltb}
use Rattle.reading.specs.declared.mark.Mark.{Mark}
use Rattle.reading.specs.declared.mark.Mark.TheVariants.{Space, Digit, SetPoint, Plus, Minus, Equals, Other}
use Rattle.reading.specs.declared.term.Term.{Term}
use Rattle.reading.specs.declared.figure.Figure.{Figure}
use Rattle.reading.specs.declared.stage.Stage.{Stage}
use Rattle.reading.specs.declared.stage.Stage.TheVariants.{Opening, Signed, Coefficient, Named, Number, Right, Negated, Constant}
use Rattle.reading.specs.declared.stage.Move.{Move}
use Rattle.reading.specs.Form.{Meaning, Form, gap, digits, integer, finish, perhaps_minus, set_point, term, constant, more}
use Rattle.reading.specs.Marks.{mark}
use Rattle.reading.specs.Steps.{longer, named, go, with_ended, move, Outcome, means, final, onward, reading}

-- what is left of a line at a stage
abbrev pub Rest : Meaning → Stage → ℕ → List Term → List Mark → Type 0
Rest m Opening col done t = (n : ℕ) × gap (perhaps_minus (λ s. term (more m n) s done)) col t
Rest m (Signed s) col done t = (n : ℕ) × gap (term (more m n) s done) col t
Rest m (Coefficient s f) col done t = (n : ℕ) × digits (λ v. gap (set_point (more m n) s v (Some f.start) done)) f.count f.value col t
Rest m (Named x) col done t = (n : ℕ) × integer (λ k. gap (more m n (done ++ named x k ∷ []))) col t
Rest m (Number x f) col done t = (n : ℕ) × digits (λ v. gap (more m n (done ++ named x v ∷ []))) f.count f.value col t
Rest m Right col done t = gap (perhaps_minus (constant m done)) col t
Rest m Negated col done t = gap (constant m done true) col t
Rest m (Constant s f) col done t = digits (λ v. gap (finish (m ≡ record { terms = done; negative = s; constant = v; start = f.start }))) f.count f.value col t

-- and after a move
abbrev pub After : Meaning → Option Move → ℕ → List Term → List Mark → Type 0
After m None col done t = ⊥
After m (Some mv) col done t = Rest m mv.next col (with_ended mv.ended done) t

-- no digit may follow seven
closed : (K : ℕ → Form) (k n col : ℕ) (t : List Mark) → K n col t → digits K k n col t
closed K k n col [] h = h
closed K k n col (x ∷ t) h = inl h

opened : (K : ℕ → Form) (n col : ℕ) (t : List Mark) → digits K 7 n col t → K n col t
opened K n col [] h = h
opened K n col (x ∷ t) (inl h) = h
opened K n col (x ∷ t) (inr q) = absurd (omega (arith, q.2))

module _ (m : Meaning) where
  passed : (b : Bool) (s : Stage) (col : ℕ) (done : List Term) (t : List Mark) → After m (cond b (go s) None) col done t → (b ≡ true) × Rest m s col done t
  passed true s col done t g = (refl, g)
  passed false s col done t g = absurd g

  module _ (col : ℕ) (done : List Term) (x : Mark) (t : List Mark) where
    to_opening : (n : ℕ) → gap (perhaps_minus (λ s. term (more m n) s done)) col (x ∷ t) → After m (move Opening col x) (col + 1) done t
    to_opening n (inl (inl (inl p))) = rw p.0 (n, p.1)
    to_opening n (inl (inl (inr p))) = rw p.1 (n, p.2)
    to_opening n (inl (inr p)) = rw p.0 (n, p.1)
    to_opening n (inr p) = rw p.0 (n, p.1)

    to_signed : (s : Bool) (n : ℕ) → gap (term (more m n) s done) col (x ∷ t) → After m (move (Signed s) col x) (col + 1) done t
    to_signed s n (inl (inl p)) = rw p.0 (n, p.1)
    to_signed s n (inl (inr p)) = rw p.1 (n, p.2)
    to_signed s n (inr p) = rw p.0 (n, p.1)

    to_coefficient : (s : Bool) (f : Figure) (n : ℕ) → digits (λ v. gap (set_point (more m n) s v (Some f.start) done)) f.count f.value col (x ∷ t) → After m (move (Coefficient s f) col x) (col + 1) done t
    to_coefficient s f n (inl (inl p)) = rw p.0 (n, p.1)
    to_coefficient s f n (inl (inr p)) = rw p.0 (n, closed (λ v. gap (set_point (more m n) s v (Some f.start) done)) 7 f.value (col + 1) t p.1)
    to_coefficient s f n (inr p) = rw p.1 (rw (lt-ltb f.count 7 p.2) (n, p.3))

    to_named : (y : Term) (n : ℕ) → integer (λ k. gap (more m n (done ++ named y k ∷ []))) col (x ∷ t) → After m (move (Named y) col x) (col + 1) done t
    to_named y n p = rw p.1 (n, p.2)

    to_number : (y : Term) (f : Figure) (n : ℕ) → digits (λ v. gap (more m n (done ++ named y v ∷ []))) f.count f.value col (x ∷ t) → After m (move (Number y f) col x) (col + 1) done t
    to_number y f zero (inl (inl p)) = rw p.0 p.1
    to_number y f (suc n) (inl (inl (inl p))) = rw p.0 (n, p.1)
    to_number y f (suc n) (inl (inl (inr p))) = rw p.0 (n, p.1)
    to_number y f n (inl (inr p)) = rw p.0 (n, closed (λ v. gap (more m n (done ++ named y v ∷ []))) 7 f.value (col + 1) t p.1)
    to_number y f n (inr p) = rw p.1 (rw (lt-ltb f.count 7 p.2) (n, p.3))

    to_right : gap (perhaps_minus (constant m done)) col (x ∷ t) → After m (move Right col x) (col + 1) done t
    to_right (inl (inl p)) = rw p.1 p.2
    to_right (inl (inr p)) = rw p.0 p.1
    to_right (inr p) = rw p.0 p.1

    to_negated : gap (constant m done true) col (x ∷ t) → After m (move Negated col x) (col + 1) done t
    to_negated (inl p) = rw p.1 p.2
    to_negated (inr p) = rw p.0 p.1

    to_constant : (s : Bool) (f : Figure) → Rest m (Constant s f) col done (x ∷ t) → After m (move (Constant s f) col x) (col + 1) done t
    to_constant s f (inl (inl p)) = absurd p
    to_constant s f (inl (inr p)) = rw p.0 (closed (λ v. gap (finish (m ≡ record { terms = done; negative = s; constant = v; start = f.start }))) 7 f.value (col + 1) t p.1)
    to_constant s f (inr p) = rw p.1 (rw (lt-ltb f.count 7 p.2) p.3)

    pub to : (s : Stage) → Rest m s col done (x ∷ t) → After m (move s col x) (col + 1) done t
    to Opening p = to_opening p.0 p.1
    to (Signed s) p = to_signed s p.0 p.1
    to (Coefficient s f) p = to_coefficient s f p.0 p.1
    to (Named y) p = to_named y p.0 p.1
    to (Number y f) p = to_number y f p.0 p.1
    to Right p = to_right p
    to Negated p = to_negated p
    to (Constant s f) p = to_constant s f p

    from_opening : (y : Mark) → After m (move Opening col y) (col + 1) done t → Rest m Opening col done (y ∷ t)
    from_opening Space g = (g.0, inr (refl, g.1))
    from_opening (Digit d) g = (g.0, inl (inl (inr (d, refl, g.1))))
    from_opening SetPoint g = (g.0, inl (inl (inl (refl, g.1))))
    from_opening Plus g = absurd g
    from_opening Minus g = (g.0, inl (inr (refl, g.1)))
    from_opening Equals g = absurd g
    from_opening Other g = absurd g

    from_signed : (s : Bool) (y : Mark) → After m (move (Signed s) col y) (col + 1) done t → Rest m (Signed s) col done (y ∷ t)
    from_signed s Space g = (g.0, inr (refl, g.1))
    from_signed s (Digit d) g = (g.0, inl (inr (d, refl, g.1)))
    from_signed s SetPoint g = (g.0, inl (inl (refl, g.1)))
    from_signed s Plus g = absurd g
    from_signed s Minus g = absurd g
    from_signed s Equals g = absurd g
    from_signed s Other g = absurd g

    from_coefficient : (s : Bool) (f : Figure) (y : Mark) → After m (move (Coefficient s f) col y) (col + 1) done t → Rest m (Coefficient s f) col done (y ∷ t)
    from_coefficient s f Space g = (g.0, inl (inr (refl, opened (λ v. gap (set_point (more m g.0) s v (Some f.start) done)) f.value (col + 1) t g.1)))
    from_coefficient s f (Digit d) g =
        let p = passed (ltb f.count 7) (Coefficient s (longer f d)) (col + 1) done t g in
        (p.1.0, inr (d, refl, ltb-true f.count 7 p.0, p.1.1))
    from_coefficient s f SetPoint g = (g.0, inl (inl (refl, g.1)))
    from_coefficient s f Plus g = absurd g
    from_coefficient s f Minus g = absurd g
    from_coefficient s f Equals g = absurd g
    from_coefficient s f Other g = absurd g

    from_named : (z : Term) (y : Mark) → After m (move (Named z) col y) (col + 1) done t → Rest m (Named z) col done (y ∷ t)
    from_named z Space g = absurd g
    from_named z (Digit d) g = (g.0, (d, refl, g.1))
    from_named z SetPoint g = absurd g
    from_named z Plus g = absurd g
    from_named z Minus g = absurd g
    from_named z Equals g = absurd g
    from_named z Other g = absurd g

    from_number : (z : Term) (f : Figure) (y : Mark) → After m (move (Number z f) col y) (col + 1) done t → Rest m (Number z f) col done (y ∷ t)
    from_number z f Space g = (g.0, inl (inr (refl, opened (λ v. gap (more m g.0 (done ++ named z v ∷ []))) f.value (col + 1) t g.1)))
    from_number z f (Digit d) g =
        let p = passed (ltb f.count 7) (Number z (longer f d)) (col + 1) done t g in
        (p.1.0, inr (d, refl, ltb-true f.count 7 p.0, p.1.1))
    from_number z f SetPoint g = absurd g
    from_number z f Plus g = (suc g.0, inl (inl (inl (refl, g.1))))
    from_number z f Minus g = (suc g.0, inl (inl (inr (refl, g.1))))
    from_number z f Equals g = (zero, inl (inl (refl, g)))
    from_number z f Other g = absurd g

    from_right : (y : Mark) → After m (move Right col y) (col + 1) done t → Rest m Right col done (y ∷ t)
    from_right Space g = inr (refl, g)
    from_right (Digit d) g = inl (inl (d, refl, g))
    from_right SetPoint g = absurd g
    from_right Plus g = absurd g
    from_right Minus g = inl (inr (refl, g))
    from_right Equals g = absurd g
    from_right Other g = absurd g

    from_negated : (y : Mark) → After m (move Negated col y) (col + 1) done t → Rest m Negated col done (y ∷ t)
    from_negated Space g = inr (refl, g)
    from_negated (Digit d) g = inl (d, refl, g)
    from_negated SetPoint g = absurd g
    from_negated Plus g = absurd g
    from_negated Minus g = absurd g
    from_negated Equals g = absurd g
    from_negated Other g = absurd g

    from_constant : (s : Bool) (f : Figure) (y : Mark) → After m (move (Constant s f) col y) (col + 1) done t → Rest m (Constant s f) col done (y ∷ t)
    from_constant s f Space g = inl (inr (refl, opened (λ v. gap (finish (m ≡ record { terms = done; negative = s; constant = v; start = f.start }))) f.value (col + 1) t g))
    from_constant s f (Digit d) g =
        let p = passed (ltb f.count 7) (Constant s (longer f d)) (col + 1) done t g in
        inr (d, refl, ltb-true f.count 7 p.0, p.1)
    from_constant s f SetPoint g = absurd g
    from_constant s f Plus g = absurd g
    from_constant s f Minus g = absurd g
    from_constant s f Equals g = absurd g
    from_constant s f Other g = absurd g

    pub from : (s : Stage) → After m (move s col x) (col + 1) done t → Rest m s col done (x ∷ t)
    from Opening g = from_opening x g
    from (Signed s) g = from_signed s x g
    from (Coefficient s f) g = from_coefficient s f x g
    from (Named y) g = from_named y x g
    from (Number y f) g = from_number y f x g
    from Right g = from_right x g
    from Negated g = from_negated x g
    from (Constant s f) g = from_constant s f x g

  -- at the end of the text
  no_more : (n col : ℕ) (done : List Term) → more m n done col [] → ⊥
  no_more zero col done h = h
  no_more (suc n) col done (inl h) = h
  no_more (suc n) col done (inr h) = h

  ended : (s : Stage) (col : ℕ) (done : List Term) → Rest m s col done [] → final s col done ≡ means m
  ended Opening col done p = absurd (no_opening p.1)
    where
      no_opening : (⊥ ⊎ ⊥) ⊎ ⊥ → ⊥
      no_opening (inl (inl h)) = h
      no_opening (inl (inr h)) = h
      no_opening (inr h) = h
  ended (Signed s) col done p = absurd (no_signed p.1)
    where
      no_signed : ⊥ ⊎ ⊥ → ⊥
      no_signed (inl h) = h
      no_signed (inr h) = h
  ended (Coefficient s f) col done p = absurd p.1
  ended (Named y) col done p = absurd p.1
  ended (Number y f) col done p = absurd (no_more p.0 col (done ++ named y f.value ∷ []) p.1)
  ended Right col done p = absurd (no_right p)
    where
      no_right : ⊥ ⊎ ⊥ → ⊥
      no_right (inl h) = h
      no_right (inr h) = h
  ended Negated col done p = absurd p
  ended (Constant s f) col done p = ap means (sym p)

  end : (s : Stage) (col : ℕ) (done : List Term) → final s col done ≡ means m → Rest m s col done []
  end Opening col done e = cc
  end (Signed s) col done e = cc
  end (Coefficient s f) col done e = cc
  end (Named y) col done e = cc
  end (Number y f) col done e = cc
  end Right col done e = cc
  end Negated col done e = cc
  end (Constant s f) col done e = cc

  -- a reading that means m is of a text that means m, and the other way round
  complete_on : (mv : Option Move) (col : ℕ) (done : List Term) (t : List Mark) (k : Stage → List Term → Outcome) → ((s : Stage) (d : List Term) → Rest m s (col + 1) d t → k s d ≡ means m) → After m mv (col + 1) done t → onward mv col done k ≡ means m
  complete_on None col done t k h g = absurd g
  complete_on (Some mv) col done t k h g = h mv.next (with_ended mv.ended done) g

  pub complete : (t : List ℕ) (s : Stage) (col : ℕ) (done : List Term) → Rest m s col done (map mark t) → reading s col done t ≡ means m
  complete [] s col done p = ended s col done p
  complete (b ∷ t) s col done p = complete_on (move s col (mark b)) col done (map mark t) _ (λ s' d q. complete t s' (col + 1) d q) (to col done (mark b) (map mark t) s p)

  sound_on : (mv : Option Move) (col : ℕ) (done : List Term) (t : List Mark) (k : Stage → List Term → Outcome) → ((s : Stage) (d : List Term) → k s d ≡ means m → Rest m s (col + 1) d t) → onward mv col done k ≡ means m → After m mv (col + 1) done t
  sound_on None col done t k h e = cc
  sound_on (Some mv) col done t k h e = h mv.next (with_ended mv.ended done) e

  pub sound : (t : List ℕ) (s : Stage) (col : ℕ) (done : List Term) → reading s col done t ≡ means m → Rest m s col done (map mark t)
  sound [] s col done e = end s col done e
  sound (b ∷ t) s col done e = from col done (mark b) (map mark t) s (sound_on (move s col (mark b)) col done (map mark t) _ (λ s' d q. sound t s' (col + 1) d q) e)
