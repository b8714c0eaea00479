-- The refusals of a line before any step.
use Rattle.std.specs.Prelude.{◌≡◌, ℕ, ◌+◌, ◌<◌, ◌≤◌, Bool, false, cond, List, [], ◌∷◌, length, ℤ, pos, Some, None, Ok, Err, Option, Result, ◌==◌, nat_le, nat_lt, slice_index_or, unsigned_abs}
use Rattle.elimination.specs.declared.fault.SheetFault.{SheetFault}
use Rattle.elimination.specs.declared.fault.SheetFault.TheVariants as fault

-- how large a coefficient, or the constant, may be
abbrev pub limit : (n column : ℕ) → ℕ
limit n u = cond (nat_lt u n) 10000 1000000

-- the position, from 1, of the first number outside its limit, from the column u on
abbrev pub over_limit : (n column : ℕ) → List ℤ → Option ℕ
over_limit n u [] = None
over_limit n u (a ∷ more) = cond (nat_le (unsigned_abs a) (limit n u)) (over_limit n (u + 1) more) (Some (u + 1))

abbrev pub label_fits : ℕ → Bool
label_fits label = cond (nat_le 1 label) (nat_le label 1000000) false

abbrev pub limited : Option ℕ → Result Unit SheetFault
limited (Some position) = Err (fault.Limit position)
limited None = Ok tt

-- in this order: the length of the line, room for h + 1 records, the label, the limits of the numbers
unfoldable pub refusal : (n h : ℕ) → List ℤ → (label room : ℕ) → Result Unit SheetFault
refusal n h line label room =
    cond (length line == n + 1)
    (cond (nat_lt h room)
    (cond (label_fits label) (limited (over_limit n 0 line)) (Err fault.Label))
    (Err fault.Room))
    (Err fault.Length)

-- a line that is refused by none of them
pub record Passes (n h : ℕ) (line : List ℤ) (room : ℕ) : Type 0 where
  pub long : length line ≡ n + 1
  pub records : h < room
  pub small : (u : ℕ) → u < length line → unsigned_abs (slice_index_or line u (pos 0)) ≤ 1000000
