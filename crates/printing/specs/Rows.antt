-- The rows that are printed.
use Rattle.std.specs.Prelude.{◌≡◌, ℕ, ◌+◌, ◌≤◌, Bool, true, false, cond, List, [], ◌∷◌, ◌++◌, length, take, drop, Ok, Err, codes, decimal, Result, ◌==◌, nat_le}
use Rattle.std.specs.List.{flat_map}
use Rattle.std.specs.Fmt.{signed_decimal}
use Rattle.exact.specs.declared.report.Report.{Report}
use Rattle.exact.specs.declared.shown.Parts.{Parts}
use Rattle.printing.specs.declared.entry.Entry.{Entry}
use Rattle.printing.specs.declared.fault.PrintFault.{PrintFault}
use Rattle.printing.specs.declared.fault.PrintFault.TheVariants.{Room}

-- d with bs written over it from a place on
abbrev pub written : List ℕ → ℕ → List ℕ → List ℕ
written d at bs = take at d ++ (bs ++ drop (at + length bs) d)

-- a fraction, as 1/2 or -3/4; a whole number where the lower number is 1
abbrev pub value_text : Parts → List ℕ
value_text v = cond (v.bottom == 1) (signed_decimal v.top) (signed_decimal v.top ++ (47 ∷ []) ++ decimal v.bottom)

-- LABEL:MULTIPLIER, after a space
abbrev pub entry_text : Entry → List ℕ
entry_text e = (32 ∷ []) ++ decimal e.label ++ (58 ∷ []) ++ value_text e.multiplier

abbrev pub held_row : ℕ → ℕ → List ℕ
held_row label place = decimal label ++ codes " held " ++ decimal place ++ (10 ∷ [])

abbrev pub follows_row : ℕ → List ℕ
follows_row label = decimal label ++ (codes " follows" ++ (10 ∷ []))

abbrev pub clash_row : ℕ → List Entry → List ℕ
clash_row label es = decimal label ++ codes " clash" ++ flat_map entry_text es ++ (10 ∷ [])

abbrev pub refused_row : ℕ → Report → List ℕ
refused_row label r = decimal label ++ codes " refused " ++ decimal r.number ++ (32 ∷ []) ++ decimal r.place ++ (10 ∷ [])

abbrev pub settled_row : ℕ → Parts → List ℕ
settled_row q v = (113 ∷ []) ++ decimal q ++ codes " = " ++ value_text v ++ (10 ∷ [])

-- whether any row has room
abbrev pub roomy : List ℕ → Bool
roomy d = nat_le 2048 (length d)

-- whether the row of a clash has room
abbrev pub fits : List Entry → List ℕ → Bool
fits es d = cond (nat_le (length es) 49) (roomy d) false

-- what a call that writes a row over d leaves, and answers: the row at the start and the rest as it was; without room, all as it was
abbrev pub Rowed : Bool → List ℕ → List ℕ → List ℕ → Result ℕ PrintFault → Type 0
Rowed true row d d' r = (r ≡ Ok (length row)) × (length row ≤ 2048) × (d' ≡ row ++ drop (length row) d)
Rowed false row d d' r = (r ≡ Err Room) × (d' ≡ d)
