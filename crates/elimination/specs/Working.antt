-- What the parts of elimination promise of the memory.
use Rattle.std.specs.Prelude.{◌≡◌, List, length, Ok, Err, Result}
use Rattle.exact.specs.Kind.{Kind}
use Rattle.ledger.specs.Listed.{Listed}
use Rattle.elimination.specs.declared.fault.StepFault.{StepFault}
use Rattle.elimination.specs.declared.held.Held.{Held}
use Rattle.elimination.specs.Held.{HeldLine, lines_of, row_of, size_in, held_in, row_in}
use Rattle.elimination.specs.Outcome.{Outcome, stuck, spent, solved, work}

-- ---- over the entries that a ledger shows
-- the working row is divided, and the other rows are cleared; or these are as they were
abbrev pub HoldsRows : {V : Type 0} → Result (List V × List (HeldLine V)) StepFault → Held → List V → List V → Type 0
HoldsRows (Ok rows) h m m' = (lines_of h m' ≡ rows.1) × (row_of h m' ≡ rows.0)
HoldsRows (Err f) h m m' = lines_of h m' ≡ lines_of h m

abbrev pub Left : {V : Type 0} → Outcome V → Held → List V → List V → Type 0
Left (stuck f) h m m' = lines_of h m' ≡ lines_of h m
Left (spent w) h m m' = (lines_of h m' ≡ lines_of h m) × (row_of h m' ≡ w)
Left (solved q w hs) h m m' = (lines_of h m' ≡ hs) × (row_of h m' ≡ w)

-- ---- over a ledger and its memory
abbrev pub working : {V : Type 0} → Kind V → Listed → List V → Outcome V
working K l m = work K (size_in l (length m)) (held_in l m) (row_in l m)

-- the held lines and the working row; at a fault the row is left open
abbrev pub Remains : {V : Type 0} → Outcome V → Listed → List V → List V → Type 0
Remains (stuck f) l m m' = held_in l m' ≡ held_in l m
Remains (spent w) l m m' = (held_in l m' ≡ held_in l m) × (row_in l m' ≡ w)
Remains (solved q w hs) l m m' = (held_in l m' ≡ hs) × (row_in l m' ≡ w)
