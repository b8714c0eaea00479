-- The steps of stating a line over the held ones, through the answers of the kind. Columns and places count from 0 here, and from 1 in answers.
use Rattle.std.specs.Prelude.{ℕ, ◌+◌, cond, List, [], ◌∷◌, ◌++◌, length, replicate, pos, Some, None, Ok, Err, Option, Result, nat_lt, slice_set}
use Rattle.exact.specs.Kind.{Kind}
use Rattle.exact.specs.Answers.{value_of}
use Rattle.rows.specs.declared.fault.RowFault.{RowFault}
use Rattle.rows.specs.Row.{at, cleared, over_row, highest}
use Rattle.elimination.specs.declared.fault.Step.{Step}
use Rattle.elimination.specs.declared.fault.Step.TheVariants.{Forward, Divide, Back}
use Rattle.elimination.specs.declared.fault.StepFault.{StepFault}
use Rattle.elimination.specs.declared.fault.SheetFault.{SheetFault}
use Rattle.elimination.specs.declared.fault.SheetFault.TheVariants.{Numbers}
use Rattle.elimination.specs.declared.record.Record.{Record}
use Rattle.elimination.specs.Held.{HeldLine}

-- what becomes of a line
pub data Verdict (V : Type 0) : Type 0 where
  refused : SheetFault → Verdict V
  follows : Verdict V
  clash : List (Record V) → Verdict V
  -- held, with the subject; all the held lines then
  taken : (subject : ℕ) → List (HeldLine V) → Verdict V

-- the answer of a row, as that of a step at a place
abbrev pub located : {X : Type 0} → Step → (place : ℕ) → Result X RowFault → Result X StepFault
located step place (Ok x) = Ok x
located step place (Err f) = Err (record { step = step; place = place; row = f })

abbrev pub then : {X Y E : Type 0} → Result X E → (X → Result Y E) → Result Y E
then (Ok x) f = f x
then (Err e) f = Err e

module _ {V : Type 0} (K : Kind V) where
  abbrev pub one : V
  one = value_of K (pos 1)

  -- the working row: the line's numbers, then the multipliers, 1 at the place h that the line would have; if h = n that 1 has no column
  abbrev pub opening : (n h : ℕ) → List V → List V
  opening n h line = line ++ slice_set (replicate n K.nil) h one

  -- 1. forward, from the place p (from 1) on: each held row clears its subject's column
  abbrev pub forward : (place : ℕ) → List (HeldLine V) → List V → Result (List V) StepFault
  forward p [] w = Ok w
  forward p (h ∷ hs) w = then (located Forward p (cleared K h.subject w h.row)) (forward (p + 1) hs)

  -- 4. the subject, the highest set point that is left; a sheet of n held lines has no place for another
  abbrev pub subject : (n h : ℕ) → List V → Option ℕ
  subject n h w = cond (nat_lt h n) (highest K n w) None

  abbrev pub divided : (q : ℕ) → List V → Result (List V) StepFault
  divided q w = located Divide 0 (over_row K (at K w q) w)

  abbrev pub with_row : HeldLine V → List V → HeldLine V
  with_row h r = record { label = h.label; subject = h.subject; line = h.line; row = r }

  -- 5. back, from the place p (from 1) on: the new row w clears its subject's column
  abbrev pub back : (q place : ℕ) → List V → List (HeldLine V) → Result (List (HeldLine V)) StepFault
  back q p w [] = Ok []
  back q p w (h ∷ hs) = then (located Back p (cleared K q h.row w)) (λ r. then (back q (p + 1) w hs) (λ rest. Ok (with_row h r ∷ rest)))

  -- 3. the held lines, from the place p (from 0) on, whose multiplier in w is not 0
  abbrev pub named : (n place : ℕ) → List (HeldLine V) → List V → List (Record V)
  named n p [] w = []
  named n p (h ∷ hs) w =
      cond (K.is_zero (at K w (n + 1 + p))) (named n (p + 1) hs w)
      (record { place = p + 1; label = h.label; multiplier = at K w (n + 1 + p) } ∷ named n (p + 1) hs w)

  -- the refused line comes last, with multiplier 1
  abbrev pub evidence : (n : ℕ) → List (HeldLine V) → (label : ℕ) → List V → List (Record V)
  evidence n hs label w = named n 0 hs w ++ record { place = length hs + 1; label = label; multiplier = one } ∷ []

  -- the divided row, and the other lines with their rows
  abbrev pub rows_after : (q : ℕ) → List (HeldLine V) → List V → Result (List V × List (HeldLine V)) StepFault
  rows_after q hs w = then (back q 1 w hs) (λ others. Ok (w, others))

  unfoldable pub holding : (q : ℕ) → List (HeldLine V) → List V → Result (List V × List (HeldLine V)) StepFault
  holding q hs w = then (divided q w) (rows_after q hs)

  -- 6. the line is held with its row, after the others with theirs
  abbrev pub added : (label : ℕ) (line : List V) (q : ℕ) → Result (List V × List (HeldLine V)) StepFault → Verdict V
  added label line q (Ok rows) = taken q (rows.1 ++ record { label = label; subject = q; line = line; row = rows.0 } ∷ [])
  added label line q (Err f) = refused (Numbers f)

  -- 2. to 6., from the row w that forward left
  abbrev pub judged : (n : ℕ) → List (HeldLine V) → (label : ℕ) → (line w : List V) → Option ℕ → Verdict V
  judged n hs label line w (Some q) = added label line q (holding q hs w)
  judged n hs label line w None = cond (K.is_zero (at K w n)) follows (clash (evidence n hs label w))

  abbrev pub reduced : (n : ℕ) → List (HeldLine V) → (label : ℕ) → List V → Result (List V) StepFault → Verdict V
  reduced n hs label line (Ok w) = judged n hs label line w (subject n (length hs) w)
  reduced n hs label line (Err f) = refused (Numbers f)

  -- all the steps
  unfoldable pub steps : (n : ℕ) → List (HeldLine V) → (label : ℕ) → List V → Verdict V
  steps n hs label line = reduced n hs label line (forward 1 hs (opening n (length hs) line))
