-- Rows of numbers, and what the operations on them make. Columns count from 0 here, and from 1 in a fault.
use Rattle.std.specs.Prelude.{◌≡◌, ℕ, zero, suc, ◌+◌, ◌^◌, ◌<◌, ◌≤◌, cond, List, [], ◌∷◌, length, ℤ, pos, Some, None, Ok, Err, Option, Result, nat_lt, slice_index_or}
use Rattle.exact.specs.declared.fault.NumberFault.{NumberFault}
use Rattle.exact.specs.Kind.{Kind}
use Rattle.exact.specs.Answers.{whole_of, less_of, over_of}
use Rattle.rows.specs.declared.fault.RowFault.{RowFault}

-- ---- one column after the other
-- the answer of a number, as that of the row in the column i
abbrev pub placed : {X : Type 0} → ℕ → Result X NumberFault → Result X RowFault
placed i (Ok x) = Ok x
placed i (Err f) = Err (record { column = i + 1; fault = f })

abbrev pub ahead : {V : Type 0} → V → Result (List V) RowFault → Result (List V) RowFault
ahead v (Ok vs) = Ok (v ∷ vs)
ahead v (Err f) = Err f

abbrev pub onto : {V : Type 0} → Result V RowFault → Result (List V) RowFault → Result (List V) RowFault
onto (Ok v) rest = ahead v rest
onto (Err f) rest = Err f

-- each number of a row by what its column and it give, from the column i on: the new row, or the first fault
abbrev pub by_column : {V : Type 0} → (ℕ → V → Result V NumberFault) → ℕ → List V → Result (List V) RowFault
by_column op i [] = Ok []
by_column op i (x ∷ xs) = onto (placed i (op i x)) (by_column op (i + 1) xs)

abbrev pub instead : {V : Type 0} → Result V NumberFault → V → List V → List V → List V
instead (Ok v) x xs rest = v ∷ rest
instead (Err f) x xs rest = x ∷ xs

-- the row as that work leaves it: at a fault the columns before it are done, and the others are as they were
abbrev pub swept : {V : Type 0} → (ℕ → V → Result V NumberFault) → ℕ → List V → List V
swept op i [] = []
swept op i (x ∷ xs) = instead (op i x) x xs (swept op (i + 1) xs)

-- the answer of a function that makes a row in place, and what it leaves if it makes one
abbrev pub done : {X E : Type 0} → Result X E → Result Unit E
done (Ok x) = Ok tt
done (Err f) = Err f

abbrev pub Leaves : {X E : Type 0} → Result X E → X → Type 0
Leaves (Ok x) y = y ≡ x
Leaves (Err f) y = Unit {0}

-- a closure whose possible results are `gives` answers what `op` says
abbrev pub Gives : {V : Type 0} → (ℕ → V → Result V NumberFault → Type 0) → (ℕ → V → Result V NumberFault) → Type 0
Gives {V} gives op = (i : ℕ) (x : V) (r : Result V NumberFault) → i < 2 ^ 64 → gives i x r → r ≡ op i x

-- an operation that leaves each column from m on as it is
abbrev pub Keeps : {V : Type 0} → ℕ → (ℕ → V → Result V NumberFault) → Type 0
Keeps {V} m op = (u : ℕ) (x : V) → m ≤ u → op u x ≡ Ok x

-- what the work on the row w₀ answers, and the row that it leaves
pub record Does {V : Type 0} (op : ℕ → V → Result V NumberFault) (w₀ : List V) (r : Result Unit RowFault) (w : List V) : Type 0 where
  pub answer : r ≡ done (by_column op 0 w₀)
  pub made : Leaves (by_column op 0 w₀) w
  pub left : w ≡ swept op 0 w₀

-- ---- the operations
-- the number in a column
abbrev pub at : {V : Type 0} → Kind V → List V → ℕ → V
at K w u = slice_index_or w u K.nil

-- the values of whole numbers; a column past them stays as it is
unfoldable pub whole_op : {V : Type 0} → Kind V → List ℤ → ℕ → V → Result V NumberFault
whole_op K numbers u x = cond (nat_lt u (length numbers)) (whole_of K (slice_index_or numbers u (pos 0))) (Ok x)

-- w - f r; a column that r lacks stays as it is
unfoldable pub less_op : {V : Type 0} → Kind V → V → List V → ℕ → V → Result V NumberFault
less_op K f r u x = cond (nat_lt u (length r)) (less_of K x f (at K r u)) (Ok x)

-- w / f
unfoldable pub over_op : {V : Type 0} → Kind V → V → ℕ → V → Result V NumberFault
over_op K f u x = over_of K x f

unfoldable pub whole_row : {V : Type 0} → Kind V → List ℤ → List V → Result (List V) RowFault
whole_row K numbers w = by_column (whole_op K numbers) 0 w

unfoldable pub less_row : {V : Type 0} → Kind V → V → List V → List V → Result (List V) RowFault
less_row K f w r = by_column (less_op K f r) 0 w

unfoldable pub over_row : {V : Type 0} → Kind V → V → List V → Result (List V) RowFault
over_row K f w = by_column (over_op K f) 0 w

-- w made 0 in the column s, by a row r that is 1 there
unfoldable pub cleared : {V : Type 0} → Kind V → ℕ → List V → List V → Result (List V) RowFault
cleared K s w r = cond (K.is_zero (at K w s)) (Ok w) (less_row K (at K w s) w r)

-- the row w as that work leaves it
unfoldable pub less_swept : {V : Type 0} → Kind V → V → List V → List V → List V
less_swept K f w r = swept (less_op K f r) 0 w

unfoldable pub clear_swept : {V : Type 0} → Kind V → ℕ → List V → List V → List V
clear_swept K s w r = cond (K.is_zero (at K w s)) w (less_swept K (at K w s) w r)

-- the highest of the first m columns that is not 0
abbrev pub highest : {V : Type 0} → Kind V → ℕ → List V → Option ℕ
highest K zero w = None
highest K (suc u) w = cond (K.is_zero (at K w u)) (highest K u w) (Some u)
