-- The held lines as they lie in memory: n + 1 places of 2 n + 1 numbers for the rows, then n places of n + 1 numbers for the lines.
use Rattle.std.specs.Prelude.{◌≡◌, ℕ, zero, suc, ◌+◌, ◌*◌, Bool, cond, List, [], ◌∷◌, length, take, drop, nat_le}
use Rattle.ledger.specs.declared.entry.Entry.{Entry}
use Rattle.ledger.specs.Listed.{Listed}
use Rattle.elimination.specs.declared.held.Held.{Held}

-- a held line: its label, its subject (a set point, from 0), its n + 1 numbers, and its solved row of 2 n + 1
pub record HeldLine (V : Type 0) : Type 0 where
  pub label : ℕ
  pub subject : ℕ
  pub line : List V
  pub row : List V

abbrev pub wide : ℕ → ℕ
wide n = 2 * n + 1

abbrev pub needed : ℕ → ℕ
needed n = (n + 1) * (3 * n + 1)

-- the numbers that a sheet works in: with no set point it uses none
abbrev pub used : ℕ → ℕ
used zero = 0
used (suc n) = needed (suc n)

-- where the row and the line of the place j (from 0) begin
abbrev pub row_place : (n j : ℕ) → ℕ
row_place n j = j * wide n

-- where the lines begin, after the rows
abbrev pub lines_place : (n : ℕ) → ℕ
lines_place n = (n + 1) * wide n

abbrev pub line_place : (n j : ℕ) → ℕ
line_place n j = (n + 1) * wide n + j * (n + 1)

abbrev pub row_at : {V : Type 0} → (n : ℕ) → List V → (j : ℕ) → List V
row_at n m j = take (wide n) (drop (row_place n j) m)

abbrev pub line_at : {V : Type 0} → (n : ℕ) → List V → (j : ℕ) → List V
line_at n m j = take (n + 1) (drop (line_place n j) m)

unfoldable pub held_line : {V : Type 0} → (n : ℕ) → List V → (j : ℕ) → Entry → HeldLine V
held_line n m j e = record { label = e.label; subject = e.subject; line = line_at n m j; row = row_at n m j }

-- the lines of the entries, from the place j on
abbrev pub held_lines : {V : Type 0} → (n : ℕ) → List V → (j : ℕ) → List Entry → List (HeldLine V)
held_lines n m j [] = []
held_lines n m j (e ∷ es) = held_line n m j e ∷ held_lines n m (j + 1) es

-- the held lines of so many set points and such entries, and the working row after theirs
abbrev pub lines_of : {V : Type 0} → Held → List V → List (HeldLine V)
lines_of h m = held_lines h.n m 0 h.entries.now

abbrev pub row_of : {V : Type 0} → Held → List V → List V
row_of h m = row_at h.n m (length h.entries.now)

-- nothing but the row of the place j has changed
pub record OnlyRow {V : Type 0} (n j : ℕ) (m m' : List V) : Type 0 where
  pub before : take (row_place n j) m' ≡ take (row_place n j) m
  pub after : drop (row_place n j + wide n) m' ≡ drop (row_place n j + wide n) m

-- the rows of the places up to j, and the lines of those before it, are as they were
abbrev pub OtherLines : {V : Type 0} → (n j : ℕ) → List V → List V → Type 0
OtherLines n j m m' = take (line_place n j) m' ≡ take (line_place n j) m

-- a ledger over a memory: without the memory that its n needs it counts as one with no set point
abbrev pub fits : Listed → ℕ → Bool
fits l have = nat_le (needed l.n) have

abbrev pub size_in : Listed → ℕ → ℕ
size_in l have = cond (fits l have) l.n 0

abbrev pub entries_in : Listed → ℕ → List Entry
entries_in l have = cond (fits l have) l.entries []

unfoldable pub held_in : {V : Type 0} → Listed → List V → List (HeldLine V)
held_in l m = held_lines (size_in l (length m)) m 0 (entries_in l (length m))

-- the working row lies after those of the held lines
unfoldable pub row_in : {V : Type 0} → Listed → List V → List V
row_in l m = row_at (size_in l (length m)) m (length (entries_in l (length m)))
