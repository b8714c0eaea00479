-- What adding a row to the output does.
use Rattle.std.specs.Prelude.{◌≡◌, ℕ, true, List, ◌++◌, map, replicate, Ok, Err, Result, unsigned_abs}
use Rattle.exact.specs.Fraction.{Fraction}
use Rattle.exact.specs.Kind.{Kind}
use Rattle.exact.specs.declared.shown.Parts.{Parts}
use Rattle.elimination.specs.declared.record.Record.{Record}
use Rattle.printing.specs.declared.entry.Entry.{Entry}
use Rattle.printing.specs.declared.fault.PrintFault.{PrintFault}
use Rattle.printing.specs.Rows.{Rowed}

-- the row stands at the end; for want of memory, all is as it was
abbrev pub Added : {E : Type 0} → List ℕ → List ℕ → List ℕ → Result Unit E → Type 0
Added row d d' (Ok u) = d' ≡ d ++ row
Added row d d' (Err e) = d' ≡ d

-- a call that may leave d' and answer r on a blank buffer writes the row there
abbrev pub Writes : (List ℕ → Result ℕ PrintFault → List ℕ → Type 0) → List ℕ → Type 0
Writes gives row = (r : Result ℕ PrintFault) (d' : List ℕ) → gives (replicate 2048 0) r d' → Rowed true row (replicate 2048 0) d' r

-- a value as it is printed
abbrev pub parts_told : Fraction → Parts
parts_told x = record { top = x.top; bottom = unsigned_abs x.bottom }

abbrev pub entry_of : {V : Type 0} → Kind V → Record V → Entry
entry_of K r = record { label = r.label; multiplier = parts_told (K.tells r.multiplier) }

-- the evidence of a clash as it is printed
abbrev pub entries_of : {V : Type 0} → Kind V → List (Record V) → List Entry
entries_of K = map (entry_of K)
