-- The reader stops at the first column where no line goes on.
use Rattle.std.proofs.Common.{◌≡◌, ℕ, suc, ◌+◌, ◌<◌, ◌≤◌, Bool, true, false, ◌⊎◌, Option, None, Some, List, [], ◌∷◌, ◌++◌, map, length, take, drop, sym, refl, ap, ◌∙◌, subst, inl, inr, arith}
use Rattle.std.proofs.lemmas.List.{take-append-drop, take-take, append_assoc}
use Rattle.reading.specs.declared.term.Term.{Term}
use Rattle.reading.specs.declared.figure.Figure.{Figure}
use Rattle.reading.specs.declared.stage.Stage.{Stage}
use Rattle.reading.specs.declared.stage.Stage.TheVariants.{Opening, Signed, Coefficient, Named, Number, Right, Negated, Constant}
use Rattle.reading.specs.declared.stage.Move.{Move}
use Rattle.reading.specs.Form.{Meaning, term_of, IsLine}
use Rattle.reading.specs.Marks.{mark}
use Rattle.reading.specs.Steps.{figure_of, named, with_ended, move, Outcome, means, stops, final, onward, reading}
use Rattle.reading.specs.Reading.{GoesOn, Breaks, Reads}
use Rattle.reading.proofs.Exact.{Rest, After, to, from, complete, sound}

-- some continuation from a stage, or a move, is of the form
Goes : Stage → ℕ → List Term → List ℕ → Type 0
Goes s col done t = (rest : List ℕ) × (m : Meaning) × Rest m s col done (map mark (t ++ rest))

GoesAfter : Option Move → ℕ → List Term → List ℕ → Type 0
GoesAfter mv col done t = (rest : List ℕ) × (m : Meaning) × After m mv col done (map mark (t ++ rest))

goes_from : (s : Stage) (col : ℕ) (done : List Term) (b : ℕ) (t : List ℕ) → GoesAfter (move s col (mark b)) (col + 1) done t → Goes s col done (b ∷ t)
unfolding Goes GoesAfter
goes_from s col done b t g = (g.0, g.1, from g.1 col done (mark b) (map mark (t ++ g.0)) s g.2)

goes_to : (s : Stage) (col : ℕ) (done : List Term) (b : ℕ) (t : List ℕ) → Goes s col done (b ∷ t) → GoesAfter (move s col (mark b)) (col + 1) done t
unfolding Goes GoesAfter
goes_to s col done b t g = (g.0, g.1, to g.1 col done (mark b) (map mark (t ++ g.0)) s g.2)

-- b and a continuation after it go on
by : (s : Stage) (col : ℕ) (done : List Term) (b : ℕ) → GoesAfter (move s col (mark b)) (col + 1) done [] → Goes s col done []
unfolding Goes GoesAfter
by s col done b g = (b ∷ g.0, g.1, from g.1 col done (mark b) (map mark g.0) s g.2)

-- every stage can be completed
constant_on : (s : Bool) (f : Figure) (col : ℕ) (done : List Term) → Goes (Constant s f) col done []
unfolding Goes
constant_on s f col done = ([], record { terms = done; negative = s; constant = f.value; start = f.start }, refl)

right_on : (col : ℕ) (done : List Term) → Goes Right col done []
unfolding Goes GoesAfter
right_on col done = by Right col done 48 (constant_on false (figure_of 0 1 col) (col + 1) done)

number_on : (y : Term) (f : Figure) (col : ℕ) (done : List Term) → Goes (Number y f) col done []
unfolding Goes GoesAfter
number_on y f col done = by (Number y f) col done 61 (right_on (col + 1) (done ++ named y f.value ∷ []))

named_on : (y : Term) (col : ℕ) (done : List Term) → Goes (Named y) col done []
unfolding Goes GoesAfter
named_on y col done = by (Named y) col done 48 (number_on y (figure_of 0 1 col) (col + 1) done)

goes : (s : Stage) (col : ℕ) (done : List Term) → Goes s col done []
unfolding Goes GoesAfter
goes Opening col done = by Opening col done 113 (named_on (term_of false 1 None col 0) (col + 1) done)
goes (Signed s) col done = by (Signed s) col done 113 (named_on (term_of s 1 None col 0) (col + 1) done)
goes (Coefficient s f) col done = by (Coefficient s f) col done 113 (named_on (term_of s f.value (Some f.start) col 0) (col + 1) done)
goes (Named y) col done = named_on y col done
goes (Number y f) col done = number_on y f col done
goes Right col done = right_on col done
goes Negated col done = by Negated col done 48 (constant_on true (figure_of 0 1 col) (col + 1) done)
goes (Constant s f) col done = constant_on s f col done

-- where a reading stops
record Stopped (on : List ℕ → Type 0) (col : ℕ) (t : List ℕ) (c : ℕ) : Type 0 where
  place : ℕ
  column : c ≡ col + place
  within : place ≤ length t
  before : on (take place t)
  there : place < length t → on (take (suc place) t) → ⊥

final_stop : (s : Stage) (col : ℕ) (done : List Term) (c : ℕ) → final s col done ≡ stops c → col ≡ c
final_stop Opening col done c e = cc
final_stop (Signed s) col done c e = cc
final_stop (Coefficient s f) col done c e = cc
final_stop (Named y) col done c e = cc
final_stop (Number y f) col done c e = cc
final_stop Right col done c e = cc
final_stop Negated col done c e = cc
final_stop (Constant s f) col done c e = cc

stopped_on : (mv : Option Move) (col : ℕ) (done : List Term) (t : List ℕ) (c : ℕ) (k : Stage → List Term → Outcome) → ((s : Stage) (d : List Term) → k s d ≡ stops c → Stopped (Goes s (col + 1) d) (col + 1) t c) → onward mv col done k ≡ stops c → ((c ≡ col) × ((rest : List ℕ) → GoesAfter mv (col + 1) done rest → ⊥)) ⊎ Stopped (GoesAfter mv (col + 1) done) (col + 1) t c
unfolding Goes GoesAfter
stopped_on None col done t c k h e = inl (cc, λ rest g. g.2)
stopped_on (Some mv) col done t c k h e = inr (h mv.next (with_ended mv.ended done) e)

stopped : (t : List ℕ) (s : Stage) (col : ℕ) (done : List Term) (c : ℕ) → reading s col done t ≡ stops c → Stopped (Goes s col done) col t c
stopped [] s col done c e = let f = final_stop s col done c e in record { place = 0; column = omega arith; within = omega arith; before = goes s col done; there = λ h. absurd (omega arith) }
stopped (b ∷ t) s col done c e = go (stopped_on (move s col (mark b)) col done t c _ (λ s' d q. stopped t s' (col + 1) d c q) e)
  where
    go : ((c ≡ col) × ((rest : List ℕ) → GoesAfter (move s col (mark b)) (col + 1) done rest → ⊥)) ⊎ Stopped (GoesAfter (move s col (mark b)) (col + 1) done) (col + 1) t c → Stopped (Goes s col done) col (b ∷ t) c
    go (inl p) = let f = p.0 in record { place = 0; column = omega arith; within = omega arith; before = goes s col done; there = λ h g. p.1 [] (goes_to s col done b [] g) }
    go (inr p) = let f = p.column in let w = p.within in record {
      place = suc p.place;
      column = omega arith;
      within = omega arith;
      before = goes_from s col done b (take p.place t) p.before;
      there = λ h g. p.there (omega arith) (goes_to s col done b (take (suc p.place) t) g);
    }

-- what is continued to a line by more bytes is continued by fewer
shorter : (text : List ℕ) (k n : ℕ) → k ≤ n → GoesOn (take n text) → GoesOn (take k text)
shorter text k n h g =
    let parts : take n text ≡ take k text ++ drop k (take n text) = sym (take-append-drop k (take n text)) ∙ ap (λ l. l ++ drop k (take n text)) (take-take k n text h) in
    (drop k (take n text) ++ g.0, g.1, subst (λ l. IsLine l g.1) (ap (λ l. l ++ g.0) parts ∙ append_assoc (take k text) (drop k (take n text)) g.0) g.2)

-- what the reading tells of a text of at most 200 bytes
told_by : (text : List ℕ) (o : Outcome) → length text ≤ 200 → reading Opening 1 [] text ≡ o → Reads text o
unfolding Goes
told_by text (means m) h e = (h, sound m text Opening 1 [] e, λ m' l. same (sym e ∙ complete m' text Opening 1 [] l))
  where
    same : {m' : Meaning} → means m ≡ means m' → m ≡ m'
    same q = cc
told_by text (stops c) h e = let p = stopped text Opening 1 [] c e in inr (h, breaks p)
  where
    breaks : Stopped (Goes Opening 1 []) 1 text c → Breaks text c
    breaks p =
        let e₁ = p.column in
        let w = p.within in
        record {
          no_line = λ m l. let p : means m ≡ stops c = sym (complete m text Opening 1 [] l) ∙ e in cc;
          low = omega arith;
          high = omega arith;
          before = λ k h. shorter text k p.place (omega arith) p.before;
          beyond = λ k h l g. p.there (omega arith) (shorter text (suc p.place) k (omega arith) g);
        }

pub reads : (text : List ℕ) → length text ≤ 200 → Reads text (reading Opening 1 [] text)
reads text h = told_by text (reading Opening 1 [] text) h refl
