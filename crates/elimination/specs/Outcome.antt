-- What the steps make of the working row, apart from the line that it stands for. Columns and places count from 0 here, and from 1 in answers.
use Rattle.std.specs.Prelude.{ℕ, cond, List, [], ◌∷◌, ◌++◌, length, replicate, Some, None, Ok, Err, Option, Result, slice_set}
use Rattle.exact.specs.Kind.{Kind}
use Rattle.rows.specs.Row.{at}
use Rattle.elimination.specs.declared.fault.StepFault.{StepFault}
use Rattle.elimination.specs.declared.fault.SheetFault.TheVariants.{Numbers}
use Rattle.elimination.specs.Held.{HeldLine}
use Rattle.elimination.specs.Steps.{Verdict, refused, follows, clash, taken, one, forward, subject, evidence, holding}

pub data Outcome (V : Type 0) : Type 0 where
  -- a number is beyond those of the kind
  stuck : StepFault → Outcome V
  -- no set point is left in the row
  spent : (row : List V) → Outcome V
  -- the subject, the row that is solved for it, and the other lines with their rows
  solved : (subject : ℕ) (row : List V) (others : List (HeldLine V)) → Outcome V

-- the subject, if there is one
abbrev pub found : {V : Type 0} → Outcome V → Result (Option ℕ) StepFault
found (stuck f) = Err f
found (spent w) = Ok None
found (solved q w hs) = Ok (Some q)

module _ {V : Type 0} (K : Kind V) where
  -- 1 at the place h that the line would have, 0 at the others; if h = n that 1 has no column
  abbrev pub multipliers : (n h : ℕ) → List V
  multipliers n h = slice_set (replicate n K.nil) h (one K)

  -- 4. and 5., from the row w that forward left
  abbrev pub solved_for : (q : ℕ) → Result (List V × List (HeldLine V)) StepFault → Outcome V
  solved_for q (Ok rows) = solved q rows.0 rows.1
  solved_for q (Err f) = stuck f

  abbrev pub looked : List (HeldLine V) → List V → Option ℕ → Outcome V
  looked hs w (Some q) = solved_for q (holding K q hs w)
  looked hs w None = spent w

  abbrev pub outcome_of : (n : ℕ) → List (HeldLine V) → Result (List V) StepFault → Outcome V
  outcome_of n hs (Ok w) = looked hs w (subject K n (length hs) w)
  outcome_of n hs (Err f) = stuck f

  -- the steps from the working row w
  unfoldable pub work : (n : ℕ) → List (HeldLine V) → List V → Outcome V
  work n hs w = outcome_of n hs (forward K 1 hs w)

  -- 2. and 3. of a row with no set point left, and 6. of one with a subject: the line is held with its row, after the others with theirs
  abbrev pub verdict_of : (n : ℕ) → List (HeldLine V) → (label : ℕ) → (line : List V) → Outcome V → Verdict V
  verdict_of n hs label line (stuck f) = refused (Numbers f)
  verdict_of n hs label line (spent w) = cond (K.is_zero (at K w n)) follows (clash (evidence K n hs label w))
  verdict_of n hs label line (solved q row others) = taken q (others ++ record { label = label; subject = q; line = line; row = row } ∷ [])
