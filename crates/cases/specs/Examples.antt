-- The worked examples.
use Rattle.std.specs.Prelude.{◌≡◌, List, [], ◌∷◌, map, ℤ, pos, negsuc}
use Rattle.exact.specs.declared.fault.NumberFault.TheVariants.{Beyond}
use Rattle.exact.specs.Fraction.{fraction, whole}
use Rattle.elimination.specs.declared.fault.Step.TheVariants.{Divide}
use Rattle.elimination.specs.declared.fault.SheetFault.TheVariants.{Numbers}
use Rattle.fractions.specs.Laws.{ratio_kind}
use Rattle.residues.specs.ParityKind.{parity_kind}
use Rattle.residues.specs.IndexKind.{index_kind}
use Rattle.cases.specs.Seen.{Blame, blame, HeldAt, Follows, Clash, Refused, At, Open, empty, answers, sheet_after, settled_at, solution, weighted}

-- q1 + q2 + q3 = 6 and q2 + q3 = 4
abbrev two : List (List ℤ)
two = (pos 1 ∷ pos 1 ∷ pos 1 ∷ pos 6 ∷ []) ∷ (pos 0 ∷ pos 1 ∷ pos 1 ∷ pos 4 ∷ []) ∷ []

-- 2 q1 + q2 + q3 = c after them
abbrev three : ℤ → List (List ℤ)
three c = (pos 1 ∷ pos 1 ∷ pos 1 ∷ pos 6 ∷ []) ∷ (pos 0 ∷ pos 1 ∷ pos 1 ∷ pos 4 ∷ []) ∷ (pos 2 ∷ pos 1 ∷ pos 1 ∷ c ∷ []) ∷ []

abbrev blamed : List Blame
blamed = blame 1 1 (whole (negsuc 1)) ∷ blame 2 2 (whole (pos 1)) ∷ blame 3 3 (whole (pos 1)) ∷ []

-- q1 + q2 = 1 and q1 - q2 = 0
abbrev halves : List (List ℤ)
halves = (pos 1 ∷ pos 1 ∷ pos 1 ∷ []) ∷ (pos 1 ∷ negsuc 0 ∷ pos 0 ∷ []) ∷ []

-- 2 q1 = 1
abbrev double : List (List ℤ)
double = (pos 2 ∷ pos 1 ∷ []) ∷ []

-- q1 + 1000 q2 = 0 and q2 + a q3 = 0
abbrev far : ℤ → List (List ℤ)
far a = (pos 1 ∷ pos 1000 ∷ pos 0 ∷ pos 0 ∷ []) ∷ (pos 0 ∷ pos 1 ∷ a ∷ pos 0 ∷ []) ∷ []

pub record Examples : Type 0 where
  -- the third line clashes with the first two, and the sum of the three, weighted, says 0 = 1
  pub clashes : answers ratio_kind (empty 3) 1 (three (pos 9)) ≡ HeldAt 1 ∷ HeldAt 2 ∷ Clash blamed ∷ []
  pub sum_says : map (weighted (three (pos 9)) blamed) (0 ∷ 1 ∷ 2 ∷ 3 ∷ []) ≡ whole (pos 0) ∷ whole (pos 0) ∷ whole (pos 0) ∷ whole (pos 1) ∷ []
  -- with 8 for 9 it follows
  pub follows : answers ratio_kind (empty 3) 1 (three (pos 8)) ≡ HeldAt 1 ∷ HeldAt 2 ∷ Follows ∷ []
  -- after two lines q1 is settled at 2, q2 is not, and the solution is 2, 0, 4
  pub first_settled : settled_at ratio_kind (sheet_after ratio_kind (empty 3) 1 two) 1 ≡ At (whole (pos 2))
  pub second_open : settled_at ratio_kind (sheet_after ratio_kind (empty 3) 1 two) 2 ≡ Open
  pub solved : solution ratio_kind (sheet_after ratio_kind (empty 3) 1 two) ≡ whole (pos 2) ∷ whole (pos 0) ∷ whole (pos 4) ∷ []
  -- both are a half in Fractions; in Parity the second line clashes with the first, each once
  pub first_half : settled_at ratio_kind (sheet_after ratio_kind (empty 2) 1 halves) 1 ≡ At (fraction (pos 1) (pos 2))
  pub second_half : settled_at ratio_kind (sheet_after ratio_kind (empty 2) 1 halves) 2 ≡ At (fraction (pos 1) (pos 2))
  pub odd_even : answers parity_kind (empty 2) 1 halves ≡ HeldAt 1 ∷ Clash (blame 1 1 (whole (pos 1)) ∷ blame 2 2 (whole (pos 1)) ∷ []) ∷ []
  -- 2 q1 = 1 settles q1 at a half in Fractions, at 64 in Index, and clashes alone in Parity
  pub half : settled_at ratio_kind (sheet_after ratio_kind (empty 1) 1 double) 1 ≡ At (fraction (pos 1) (pos 2))
  pub teeth : settled_at index_kind (sheet_after index_kind (empty 1) 1 double) 1 ≡ At (whole (pos 64))
  pub alone : answers parity_kind (empty 1) 1 double ≡ Clash (blame 1 1 (whole (pos 1)) ∷ []) ∷ []
  -- numbers up to a million are held, and 1000 times 1001 is beyond them: divide, column 1
  pub within : answers ratio_kind (empty 3) 1 (far (pos 1000)) ≡ HeldAt 1 ∷ HeldAt 2 ∷ []
  pub beyond : answers ratio_kind (empty 3) 1 (far (pos 1001)) ≡ HeldAt 1 ∷ Refused (Numbers (record { step = Divide; place = 0; row = record { column = 1; fault = Beyond } })) ∷ []
