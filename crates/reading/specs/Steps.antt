-- How the reader goes through a text, mark by mark.
use Rattle.std.specs.Prelude.{ℕ, ◌+◌, ◌*◌, true, false, cond, List, [], ◌∷◌, ◌++◌, Option, None, Some, nat_lt}
use Rattle.reading.specs.declared.mark.Mark.{Mark}
use Rattle.reading.specs.declared.mark.Mark.TheVariants.{Space, Digit, SetPoint, Plus, Minus, Equals, Other}
use Rattle.reading.specs.declared.term.Term.{Term}
use Rattle.reading.specs.declared.figure.Figure.{Figure}
use Rattle.reading.specs.declared.stage.Stage.{Stage}
use Rattle.reading.specs.declared.stage.Stage.TheVariants.{Opening, Signed, Coefficient, Named, Number, Right, Negated, Constant}
use Rattle.reading.specs.declared.stage.Move.{Move}
use Rattle.reading.specs.Form.{Meaning, term_of}
use Rattle.reading.specs.Marks.{mark}

abbrev pub figure_of : ℕ → ℕ → ℕ → Figure
figure_of value count start = record { value = value; count = count; start = start }

-- no digit may follow
abbrev pub closed : Figure → Figure
closed f = figure_of f.value 7 f.start

abbrev pub longer : Figure → ℕ → Figure
longer f d = figure_of (10 * f.value + d) (f.count + 1) f.start

abbrev pub named : Term → ℕ → Term
named t k = term_of t.negative t.coefficient t.start t.place k

-- a mark leads on, or ends a term and leads on; where no line goes on with it, there is no move
abbrev pub go : Stage → Option Move
go s = Some (record { ended = None; next = s })

abbrev pub ends : Term → Stage → Option Move
ends t s = Some (record { ended = Some t; next = s })

abbrev pub on_space : Stage → Option Move
on_space Opening = go Opening
on_space (Signed s) = go (Signed s)
on_space (Coefficient s f) = go (Coefficient s (closed f))
on_space (Named t) = None
on_space (Number t f) = go (Number t (closed f))
on_space Right = go Right
on_space Negated = go Negated
on_space (Constant s f) = go (Constant s (closed f))

abbrev pub on_digit : Stage → ℕ → ℕ → Option Move
on_digit Opening col d = go (Coefficient false (figure_of d 1 col))
on_digit (Signed s) col d = go (Coefficient s (figure_of d 1 col))
on_digit (Coefficient s f) col d = cond (nat_lt f.count 7) (go (Coefficient s (longer f d))) None
on_digit (Named t) col d = go (Number t (figure_of d 1 col))
on_digit (Number t f) col d = cond (nat_lt f.count 7) (go (Number t (longer f d))) None
on_digit Right col d = go (Constant false (figure_of d 1 col))
on_digit Negated col d = go (Constant true (figure_of d 1 col))
on_digit (Constant s f) col d = cond (nat_lt f.count 7) (go (Constant s (longer f d))) None

abbrev pub on_q : Stage → ℕ → Option Move
on_q Opening col = go (Named (term_of false 1 None col 0))
on_q (Signed s) col = go (Named (term_of s 1 None col 0))
on_q (Coefficient s f) col = go (Named (term_of s f.value (Some f.start) col 0))
on_q (Named t) col = None
on_q (Number t f) col = None
on_q Right col = None
on_q Negated col = None
on_q (Constant s f) col = None

-- a mark after a term, which leads on to next
abbrev pub ended : Stage → Stage → Option Move
ended Opening next = None
ended (Signed s) next = None
ended (Coefficient s f) next = None
ended (Named t) next = None
ended (Number t f) next = ends (named t f.value) next
ended Right next = None
ended Negated next = None
ended (Constant s f) next = None

abbrev pub on_minus : Stage → Option Move
on_minus Opening = go (Signed true)
on_minus (Signed s) = None
on_minus (Coefficient s f) = None
on_minus (Named t) = None
on_minus (Number t f) = ends (named t f.value) (Signed true)
on_minus Right = go Negated
on_minus Negated = None
on_minus (Constant s f) = None

abbrev pub move : Stage → ℕ → Mark → Option Move
move s col Space = on_space s
move s col (Digit d) = on_digit s col d
move s col SetPoint = on_q s col
move s col Plus = ended s (Signed false)
move s col Minus = on_minus s
move s col Equals = ended s Right
move s col Other = None

-- what a text is found to be: a line, or no line from a column on
pub data Outcome : Type 0 where
  means : Meaning → Outcome
  stops : ℕ → Outcome

abbrev pub final : Stage → ℕ → List Term → Outcome
final Opening col done = stops col
final (Signed s) col done = stops col
final (Coefficient s f) col done = stops col
final (Named t) col done = stops col
final (Number t f) col done = stops col
final Right col done = stops col
final Negated col done = stops col
final (Constant s f) col done = means (record { terms = done; negative = s; constant = f.value; start = f.start })

-- the terms up to here, with one that a move ends
abbrev pub with_ended : Option Term → List Term → List Term
with_ended None done = done
with_ended (Some t) done = done ++ t ∷ []

-- the outcome after a move
abbrev pub onward : Option Move → ℕ → List Term → (Stage → List Term → Outcome) → Outcome
onward None col done k = stops col
onward (Some mv) col done k = k mv.next (with_ended mv.ended done)

-- the outcome from a stage on
abbrev pub reading : Stage → ℕ → List Term → List ℕ → Outcome
reading s col done [] = final s col done
reading s col done (b ∷ t) = onward (move s col (mark b)) col done (λ s' done'. reading s' (col + 1) done' t)
