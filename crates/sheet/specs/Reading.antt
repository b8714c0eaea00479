-- What is read off the rows: settled set points, and a solution.
use Rattle.std.specs.Prelude.{ℕ, zero, suc, ◌-◌, ◌<◌, Bool, true, false, cond, List, [], ◌∷◌, ◌++◌, length, drop, Some, None, Ok, Err, Option, Result, ◌==◌, nat_le}
use Rattle.exact.specs.Kind.{Kind}
use Rattle.rows.specs.Row.{at}
use Rattle.elimination.specs.declared.fault.SheetFault.{SheetFault}
use Rattle.elimination.specs.declared.fault.SheetFault.TheVariants.{SetPoint, Room}
use Rattle.elimination.specs.Held.{HeldLine}
use Rattle.sheet.specs.Contents.{Contents}

-- the row that is solved for the set point u (from 0)
abbrev pub row_for : {V : Type 0} → ℕ → List (HeldLine V) → Option (List V)
row_for u [] = None
row_for u (h ∷ hs) = cond (h.subject == u) (Some h.row) (row_for u hs)

-- 0 in every column below m but u
abbrev pub alone : {V : Type 0} → Kind V → (u m : ℕ) → List V → Bool
alone K u zero row = true
alone K u (suc m) row = cond (cond (m == u) true (K.is_zero (at K row m))) (alone K u m row) false

abbrev pub value_in : {V : Type 0} → Kind V → (n u : ℕ) → Option (List V) → Option V
value_in K n u None = None
value_in K n u (Some row) = cond (alone K u n row) (Some (at K row n)) None

-- the value of the set point u (from 0), if it is settled: its row has no other set point
abbrev pub value_at : {V : Type 0} → Kind V → (n u : ℕ) → List (HeldLine V) → Option V
value_at K n u hs = value_in K n u (row_for u hs)

-- a set point is counted from 1
abbrev pub is_set_point : (n q : ℕ) → Bool
is_set_point n q = cond (nat_le 1 q) (nat_le q n) false

unfoldable pub settled_answer : {V : Type 0} → Kind V → Contents V → (q : ℕ) → Result (Option V) SheetFault
settled_answer K S q = cond (is_set_point S.n q) (Ok (value_at K S.n (q - 1) S.held)) (Err SetPoint)

-- the constant of the row for u, 0 if there is none
abbrev pub constant_in : {V : Type 0} → Kind V → (n : ℕ) → Option (List V) → V
constant_in K n (Some row) = at K row n
constant_in K n None = K.nil

abbrev pub constant_at : {V : Type 0} → Kind V → (n : ℕ) → List (HeldLine V) → (u : ℕ) → V
constant_at K n hs u = constant_in K n (row_for u hs)

-- f 0, f 1, .., in all m
abbrev pub tabled : {X : Type 0} → (ℕ → X) → (m : ℕ) → List X
tabled f zero = []
tabled f (suc m) = tabled f m ++ f m ∷ []

abbrev pub solution_of : {V : Type 0} → Kind V → (n : ℕ) → List (HeldLine V) → List V
solution_of K n hs = tabled (constant_at K n hs) n

unfoldable pub solution_answer : {V : Type 0} → Contents V → (room : ℕ) → Result Unit SheetFault
solution_answer S room = cond (nat_le S.n room) (Ok tt) (Err Room)

-- the first n numbers are the solution, the others as they were; too few are left as they were
unfoldable pub solution_after : {V : Type 0} → Kind V → Contents V → List V → List V
solution_after K S old = cond (nat_le S.n (length old)) (solution_of K S.n S.held ++ drop S.n old) old

abbrev pub Within : ℕ → Option ℕ → Type 0
Within h None = Unit {0}
Within h (Some j) = j < h
