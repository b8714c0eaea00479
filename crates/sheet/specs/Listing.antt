-- A list of lines, stated one after the other.
use Rattle.std.specs.Prelude.{ℕ, zero, suc, ◌+◌, ◌/◌, ◌%◌, Bool, true, false, cond, List, [], ◌∷◌, length, take, drop, ℤ, Ok, Err, Result, ◌==◌, nat_le}
use Rattle.exact.specs.Kind.{Kind}
use Rattle.exact.specs.declared.report.Report.{Report}
use Rattle.elimination.specs.declared.fault.SheetFault.{SheetFault}
use Rattle.elimination.specs.declared.fault.SheetFault.TheVariants.{Length, Room, Label}
use Rattle.elimination.specs.declared.record.Record.{Record}
use Rattle.elimination.specs.Faults.{sheet_report}
use Rattle.elimination.specs.Refusals.{label_fits}
use Rattle.elimination.specs.Stating.{records_after}
use Rattle.sheet.specs.declared.fault.ListFault.{ListFault}
use Rattle.sheet.specs.Contents.{Contents, verdict, stated, after}

-- number, layer and place are those of the line's fault
abbrev pub list_report : ListFault → Report
list_report f = sheet_report f.fault

-- the first m lines of w numbers each
abbrev pub lines_of : (w m : ℕ) → List ℤ → List (List ℤ)
lines_of w zero xs = []
lines_of w (suc m) xs = take w xs ∷ lines_of w m (drop w xs)

-- each of m labels, rising by one, is from 1 to 1,000,000
abbrev pub labels_fit : (m label : ℕ) → Bool
labels_fit zero label = true
labels_fit (suc m) label = cond (label_fits label) (labels_fit m (label + 1)) false

-- whole lines, and at most 1,000
abbrev pub whole_lines : (n size : ℕ) → Bool
whole_lines n size = cond (size % (n + 1) == 0) (nat_le (size / (n + 1)) 1000) false

-- why a list of so many numbers is refused as a whole, in this order: its length, room for n + 1 records, the labels
abbrev pub list_refusal : (n size first room : ℕ) → Result Unit SheetFault
list_refusal n size first room =
    cond (whole_lines n size)
    (cond (nat_le (n + 1) room)
    (cond (labels_fit (size / (n + 1)) first) (Ok tt) (Err Label))
    (Err Room))
    (Err Length)

-- the answer, and what then stands
pub record Checked (V : Type 0) : Type 0 where
  pub answer : Result ℕ ListFault
  pub contents : Contents V
  pub records : List (Record V)

-- a refusal stops the list at this index, and what stands then stays; without one there is more to come
abbrev pub unless_stopped : {X V : Type 0} → Result X SheetFault → (index : ℕ) → Contents V → List (Record V) → Checked V → Checked V
unless_stopped (Ok x) i S rs more = more
unless_stopped (Err f) i S rs more = record { answer = Err (record { index = i; fault = f }); contents = S; records = rs }

-- the lines from the one with this index and this label on
abbrev pub checked_from : {V : Type 0} → Kind V → (index label : ℕ) → List (List ℤ) → Contents V → List (Record V) → Checked V
checked_from K i label [] S rs = record { answer = Ok i; contents = S; records = rs }
checked_from K i label (l ∷ ls) S rs =
    let v = verdict K S l label (length rs) in
    unless_stopped (stated S v) i (after S v) (records_after v rs) (checked_from K (i + 1) (label + 1) ls (after S v) (records_after v rs))

-- a list that is refused as a whole leaves all as it was; else its lines are stated from the first on
unfoldable pub checking : {V : Type 0} → Kind V → Contents V → List ℤ → (first : ℕ) → List (Record V) → Checked V
checking K S list first rs =
    unless_stopped (list_refusal S.n (length list) first (length rs)) 0 S rs
    (checked_from K 1 first (lines_of (S.n + 1) (length list / (S.n + 1)) list) S rs)
