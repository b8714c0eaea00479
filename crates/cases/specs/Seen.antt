-- A sheet seen from outside: values by the fractions that they tell.
use Rattle.std.specs.Prelude.{ℕ, ◌+◌, ◌-◌, List, [], ◌∷◌, map, length, ℤ, pos, Some, None, Option, Ok, Err, Result, slice_index_or}
use Rattle.exact.specs.Fraction.{Fraction, whole, plus, times}
use Rattle.exact.specs.Kind.{Kind}
use Rattle.elimination.specs.declared.fault.SheetFault.{SheetFault}
use Rattle.elimination.specs.declared.record.Record.{Record}
use Rattle.elimination.specs.Steps.{Verdict, refused, follows, clash, taken}
use Rattle.sheet.specs.Contents.{Contents, verdict, after}
use Rattle.sheet.specs.Reading.{settled_answer, solution_of}

-- a record of evidence
pub record Blame : Type 0 where
  pub place : ℕ
  pub label : ℕ
  pub multiplier : Fraction

abbrev pub blame : (place label : ℕ) → Fraction → Blame
blame p l m = record { place = p; label = l; multiplier = m }

-- what is seen of an answer to a line
pub data Seen : Type 0 where
  HeldAt : (place : ℕ) → Seen
  Follows : Seen
  Clash : List Blame → Seen
  Refused : SheetFault → Seen

-- of an answer to settled
pub data Point : Type 0 where
  At : Fraction → Point
  Open : Point
  Outside : Point

abbrev pub empty : {V : Type 0} → (n : ℕ) → Contents V
empty n = record { n = n; number = 0; held = [] }

module _ {V : Type 0} (K : Kind V) where
  abbrev told : Record V → Blame
  told r = blame r.place r.label (K.tells r.multiplier)

  abbrev seen : ℕ → Verdict V → Seen
  seen h (refused f) = Refused f
  seen h follows = Follows
  seen h (clash rs) = Clash (map told rs)
  seen h (taken q hs) = HeldAt (h + 1)

  abbrev next : Contents V → List ℤ → (label : ℕ) → Verdict V
  next S line label = verdict K S line label (S.n + 1)

  -- the lines stated one after the other, their labels rising by one
  abbrev pub answers : Contents V → (label : ℕ) → List (List ℤ) → List Seen
  answers S label [] = []
  answers S label (l ∷ ls) = seen (length S.held) (next S l label) ∷ answers (after S (next S l label)) (label + 1) ls

  abbrev pub sheet_after : Contents V → (label : ℕ) → List (List ℤ) → Contents V
  sheet_after S label [] = S
  sheet_after S label (l ∷ ls) = sheet_after (after S (next S l label)) (label + 1) ls

  abbrev point : Result (Option V) SheetFault → Point
  point (Ok (Some v)) = At (K.tells v)
  point (Ok None) = Open
  point (Err f) = Outside

  abbrev pub settled_at : Contents V → (q : ℕ) → Point
  settled_at S q = point (settled_answer K S q)

  abbrev pub solution : Contents V → List Fraction
  solution S = map K.tells (solution_of K S.n S.held)

-- the lines, each times its multiplier, added up in a column
abbrev pub weighted : List (List ℤ) → List Blame → (column : ℕ) → Fraction
weighted lines [] u = whole (pos 0)
weighted lines (b ∷ bs) u = plus (times b.multiplier (whole (slice_index_or (slice_index_or lines (b.place - 1) []) u (pos 0)))) (weighted lines bs u)
