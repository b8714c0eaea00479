-- What a turn of the reader keeps, and what its end tells.
use Rattle.std.proofs.Common.{◌≡◌, ℕ, ◌+◌, ◌<◌, ◌≤◌, Bool, Option, None, Some, List, [], ◌∷◌, All, length, length-append, get_or, drop, sym, refl, ap, ◌∙◌, subst, arith}
use Rattle.std.proofs.lemmas.List.{drop_more, drop_all}
use Rattle.reading.specs.declared.term.Term.{Term}
use Rattle.reading.specs.declared.figure.Figure.{Figure}
use Rattle.reading.specs.declared.stage.Stage.{Stage}
use Rattle.reading.specs.declared.stage.Stage.TheVariants.{Opening, Signed, Coefficient, Named, Number, Right, Negated, Constant}
use Rattle.reading.specs.declared.stage.Move.{Move}
use Rattle.reading.specs.Marks.{mark}
use Rattle.reading.specs.Steps.{move, with_ended, stops, final, Outcome, onward, reading}
use Rattle.reading.specs.Reading.{Reads}
use Rattle.reading.specs.Terms.{Fair}
use Rattle.reading.proofs.Fairness as terms
use Rattle.reading.proofs.Stops.{reads}

pub record Sofar (text : List ℕ) (i : ℕ) (s : Stage) (done : List Term) : Type 0 where
  pub goes : reading s (i + 1) done (drop i text) ≡ reading Opening 1 [] text
  pub few : length done ≤ i

-- after a byte with which one may
pub turn : {text : List ℕ} {i : ℕ} {s : Stage} {done : List Term} {mv : Move} → Sofar text i s done → i < length text → move s (i + 1) (mark (get_or text i 0)) ≡ Some mv → Sofar text (i + 1) mv.next (with_ended mv.ended done)
turn {text} {i} {s} {done} {mv} w h e =
    let on : List ℕ → Outcome = reading s (i + 1) done in
    let next : Option Move → Outcome = λ v. onward v (i + 1) done (λ s' d. reading s' (i + 1 + 1) d (drop (i + 1) text)) in
    record { goes = sym (ap next e) ∙ sym (ap on (drop_more text i 0 h)) ∙ w.goes; few = few mv.ended }
  where
    few : (o : Option Term) → length (with_ended o done) ≤ i + 1
    few None = let l = w.few in omega (arith, l)
    few (Some t) = let l = w.few in omega (arith, l, length-append done (t ∷ []))

-- at a byte with which no line goes on
pub stop : {text : List ℕ} {i : ℕ} {s : Stage} {done : List Term} → Sofar text i s done → i < length text → length text ≤ 200 → None ≡ move s (i + 1) (mark (get_or text i 0)) → Reads text (stops (i + 1))
stop {text} {i} {s} {done} w h short e =
    let on : List ℕ → Outcome = reading s (i + 1) done in
    let next : Option Move → Outcome = λ v. onward v (i + 1) done (λ s' d. reading s' (i + 1 + 1) d (drop (i + 1) text)) in
    subst (Reads text) (sym (ap next e ∙ sym (ap on (drop_more text i 0 h)) ∙ w.goes)) (reads text short)

-- at the end
pub ended : {text : List ℕ} {i : ℕ} {s : Stage} {done : List Term} → Sofar text i s done → i ≡ length text → length text ≤ 200 → Reads text (final s (length text + 1) done)
ended {text} {i} {s} {done} w e short =
    subst (Reads text) (sym w.goes ∙ ap (reading s (i + 1) done) (drop_all i text (omega arith)) ∙ ap (λ k. final s (k + 1) done) e) (reads text short)

-- at the end of a line
pub fair : {text : List ℕ} {i : ℕ} {s : Stage} {done : List Term} → Sofar text i s done → length text ≤ i → (negative : Bool) (f : Figure) → s ≡ Constant negative f → All Fair done
fair {text} {i} {s} {done} w e negative f q =
    terms.fair (record { terms = done; negative = negative; constant = f.value; start = f.start }) text (sym w.goes ∙ ap (reading s (i + 1) done) (drop_all i text e) ∙ ap (λ s'. final s' (i + 1) done) q)

pub unfinished : (s : Stage) (col : ℕ) (done : List Term) → ((negative : Bool) (f : Figure) → s ≡ Constant negative f → ⊥) → final s col done ≡ stops col
unfinished Opening col done h = refl
unfinished (Signed s) col done h = refl
unfinished (Coefficient s f) col done h = refl
unfinished (Named y) col done h = refl
unfinished (Number y f) col done h = refl
unfinished Right col done h = refl
unfinished Negated col done h = refl
unfinished (Constant s f) col done h = absurd (h s f refl)
