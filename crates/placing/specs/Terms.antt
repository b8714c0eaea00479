-- Which terms may stand in a line over n set points.
use Rattle.std.specs.Prelude.{◌≡◌, ℕ, ◌<◌, ◌≤◌, List, length, Ok, Err, Result}
use Rattle.reading.specs.declared.term.Term.{Term}
use Rattle.reading.specs.Terms.{at}
use Rattle.placing.specs.declared.fault.TextFault.{TextFault}
use Rattle.placing.specs.declared.fault.TextFault.TheVariants.{Room, Form, Heading, OutsideSetPoint, TwiceSetPoint, TooLong, Sheet}

-- the number after its q is one of 1 to n
abbrev pub Inside : ℕ → Term → Type 0
Inside n t = (1 ≤ t.number) × (t.number ≤ n)

-- one of the first k terms has this number
abbrev pub StoodBefore : List Term → ℕ → ℕ → Type 0
StoodBefore ts k q = (j : ℕ) × (j < k) × ((at ts j).number ≡ q)

-- the term at index k may stand there
abbrev pub Good : List Term → ℕ → ℕ → Type 0
Good ts n k = Inside n (at ts k) × (StoodBefore ts k (at ts k).number → ⊥)

abbrev pub AllGood : List Term → ℕ → Type 0
AllGood ts n = (k : ℕ) → k < length ts → Good ts n k

-- no term before the one at index k is bad, and c is the column of its q
pub record Leftmost (ts : List Term) (n k c : ℕ) : Type 0 where
  pub within : k < length ts
  pub column : c ≡ (at ts k).place
  pub before : (j : ℕ) → j < k → Good ts n j

-- what the leftmost bad term is refused for: that it is outside comes before that it stood before
abbrev pub Bad : List Term → ℕ → TextFault → Type 0
Bad ts n Room = ⊥
Bad ts n (Form c) = ⊥
Bad ts n Heading = ⊥
Bad ts n (OutsideSetPoint c) = (k : ℕ) × Leftmost ts n k c × (Inside n (at ts k) → ⊥)
Bad ts n (TwiceSetPoint c) = (k : ℕ) × Leftmost ts n k c × Inside n (at ts k) × StoodBefore ts k (at ts k).number
Bad ts n TooLong = ⊥
Bad ts n (Sheet f c) = ⊥

abbrev pub Checked : List Term → ℕ → Result (Unit {0}) TextFault → Type 0
Checked ts n (Ok u) = AllGood ts n
Checked ts n (Err f) = Bad ts n f
