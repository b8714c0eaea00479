-- Stating a line: the verdict, the answer, and what then stands.
use Rattle.std.specs.Prelude.{◌≡◌, ℕ, ◌<◌, true, List, [], ◌∷◌, ◌++◌, map, length, drop, ℤ, Some, None, Ok, Err, Option, Result}
use Rattle.exact.specs.Kind.{Kind}
use Rattle.exact.specs.Answers.{value_of}
use Rattle.ledger.specs.declared.entry.Entry.{Entry}
use Rattle.ledger.specs.Listed.{Listed, holding, may_hold}
use Rattle.elimination.specs.declared.fault.SheetFault.{SheetFault}
use Rattle.elimination.specs.declared.fault.SheetFault.TheVariants.{Clash}
use Rattle.elimination.specs.declared.record.Record.{Record}
use Rattle.elimination.specs.Held.{HeldLine}
use Rattle.elimination.specs.Refusals.{refusal}
use Rattle.elimination.specs.Steps.{Verdict, refused, follows, clash, taken, steps}

abbrev pub unless : {V : Type 0} → Result Unit SheetFault → Verdict V → Verdict V
unless (Ok u) v = v
unless (Err f) v = refused f

-- the verdict on a line over the held lines hs, with room for so many records
abbrev pub stating : {V : Type 0} → Kind V → (n : ℕ) → List (HeldLine V) → List ℤ → (label room : ℕ) → Verdict V
stating K n hs line label room = unless (refusal n (length hs) line label room) (steps K n hs label (map (value_of K) line))

-- the answer: the subject, and none where the line follows
abbrev pub course : {V : Type 0} → Verdict V → Result (Option ℕ) SheetFault
course (refused f) = Err f
course follows = Ok None
course (clash rs) = Err (Clash (length rs))
course (taken q hs) = Ok (Some q)

-- the held lines after it
abbrev pub held_after : {V : Type 0} → Verdict V → List (HeldLine V) → List (HeldLine V)
held_after (refused f) hs = hs
held_after follows hs = hs
held_after (clash rs) hs = hs
held_after (taken q hs') hs = hs'

abbrev pub over_written : {X : Type 0} → List X → List X → List X
over_written new old = new ++ drop (length new) old

-- the records after it: evidence over the first, the others as they were
abbrev pub records_after : {V : Type 0} → Verdict V → List (Record V) → List (Record V)
records_after (refused f) old = old
records_after follows old = old
records_after (clash rs) old = over_written rs old
records_after (taken q hs) old = old

-- the ledger after it
abbrev pub entered : {V : Type 0} → Verdict V → (label : ℕ) → Listed → Listed
entered (refused f) label l = l
entered follows label l = l
entered (clash rs) label l = l
entered (taken q hs) label l = holding label q l

-- the ledger has a place for a line with a subject
abbrev pub HasPlaceFor : Listed → Option ℕ → Type 0
HasPlaceFor l None = Unit {0}
HasPlaceFor l (Some q) = may_hold q l ≡ true

abbrev pub HasPlace : {E : Type 0} → Listed → Result (Option ℕ) E → Type 0
HasPlace l (Ok o) = HasPlaceFor l o
HasPlace l (Err f) = Unit {0}

-- ---- what the parts of it promise, over the entries that a ledger shows
-- a subject is a set point, and there is a place for the line
abbrev pub Found : (n h : ℕ) → Option ℕ → Type 0
Found n h None = Unit {0}
Found n h (Some q) = (q < n) × (h < n)

abbrev pub Answers : {E : Type 0} → (n h : ℕ) → Result (Option ℕ) E → Type 0
Answers n h (Ok o) = Found n h o
Answers n h (Err f) = Unit {0}

abbrev pub entries_after : {V : Type 0} → Verdict V → (label : ℕ) → List Entry → List Entry
entries_after (refused f) label es = es
entries_after follows label es = es
entries_after (clash rs) label es = es
entries_after (taken q hs) label es = es ++ record { label = label; subject = q } ∷ []
