-- What the lines of a recipe print, and what they make of the sheet.
use Rattle.std.specs.Prelude.{◌≡◌, ℕ, zero, suc, ◌+◌, ◌⊎◌, List, [], ◌∷◌, ◌++◌, length, Some, None, Ok, Err, Option, Result}
use Rattle.exact.specs.Kind.{Kind}
use Rattle.elimination.specs.declared.fault.SheetFault.{SheetFault}
use Rattle.elimination.specs.declared.record.Record.{Record}
use Rattle.elimination.specs.Stating.{records_after}
use Rattle.elimination.specs.Steps.{Verdict, refused, follows, clash, taken}
use Rattle.reading.specs.Form.{Meaning}
use Rattle.reading.specs.Reading.{Reads}
use Rattle.reading.specs.Steps.{means}
use Rattle.printing.specs.Rows.{held_row, follows_row, clash_row, refused_row, settled_row}
use Rattle.placing.specs.declared.fault.TextFault.{TextFault}
use Rattle.placing.specs.Answers.{Refused}
use Rattle.placing.specs.Columns.{fault_placed}
use Rattle.placing.specs.Faults.{text_report}
use Rattle.placing.specs.Numbers.{numbers}
use Rattle.placing.specs.Terms.{AllGood}
use Rattle.sheet.specs.declared.answer.Stated.{Stated}
use Rattle.sheet.specs.Contents.{Contents, verdict, stated, after}
use Rattle.sheet.specs.Reading.{settled_answer}
use Rattle.recipe.specs.Added.{parts_told, entries_of}

-- the sheet's answer on a line, with its column in the text
abbrev pub in_text : Result Stated SheetFault → Meaning → ℕ → Result Stated TextFault
in_text (Ok s) m n = Ok s
in_text (Err f) m n = Err (fault_placed f m n)

-- over a kind of numbers, with room for so many records
module _ {V : Type 0} (K : Kind V) (room : ℕ) where
  -- the verdict on the line that a text means
  abbrev pub verdict_on : Contents V → (label : ℕ) → Meaning → Verdict V
  verdict_on S label m = verdict K S (numbers m S.n) label room

  abbrev pub verdict_row : Contents V → (label : ℕ) → Meaning → Verdict V → List ℕ
  verdict_row S label m (refused f) = refused_row label (text_report (fault_placed f m S.n))
  verdict_row S label m follows = follows_row label
  verdict_row S label m (clash rs) = clash_row label (entries_of K rs)
  verdict_row S label m (taken q hs) = held_row label (length S.held + 1)

  -- a text that means no line over the set points is refused, and leaves the sheet
  pub record Unread (S : Contents V) (label : ℕ) (text row : List ℕ) (S' : Contents V) : Type 0 where
    pub fault : TextFault
    pub why : Refused text S.n 49 fault
    pub prints : row ≡ refused_row label (text_report fault)
    pub same : S' ≡ S

  -- else the line that it means is stated
  pub record Stands (S : Contents V) (label : ℕ) (text row : List ℕ) (S' : Contents V) : Type 0 where
    pub meaning : Meaning
    pub reads : Reads text (means meaning)
    pub good : AllGood meaning.terms S.n
    pub prints : row ≡ verdict_row S label meaning (verdict_on S label meaning)
    pub leaves : S' ≡ after S (verdict_on S label meaning)

  abbrev pub LineDone : Contents V → ℕ → List ℕ → List ℕ → Contents V → Type 0
  LineDone S label text row S' = Unread S label text row S' ⊎ Stands S label text row S'

  -- the lines that are not empty, one after the other
  abbrev pub LinesDone : Contents V → List (ℕ × List ℕ) → List ℕ → Contents V → Type 0
  LinesDone S [] rows S' = (rows ≡ []) × (S' ≡ S)
  LinesDone S (l ∷ ls) rows S' =
      (row : List ℕ) × (rest : List ℕ) × (T : Contents V) × LineDone S l.0 l.1 row T × LinesDone T ls rest S' × (rows ≡ row ++ rest)

  -- the rows are added to the output
  pub record Adds (S : Contents V) (ls : List (ℕ × List ℕ)) (d d' : List ℕ) (S' : Contents V) : Type 0 where
    pub rows : List ℕ
    pub done : LinesDone S ls rows S'
    pub output : d' ≡ d ++ rows

-- ---- one line, as it is answered, and with its evidence in the records
module _ {V : Type 0} (K : Kind V) where
  pub record Refuses (S : Contents V) (text : List ℕ) (old : List (Record V)) (r : Result Stated TextFault) (S' : Contents V) (new : List (Record V)) : Type 0 where
    pub fault : TextFault
    pub why : Refused text S.n 49 fault
    pub answer : r ≡ Err fault
    pub same : S' ≡ S
    pub records : new ≡ old

  pub record States (S : Contents V) (label : ℕ) (text : List ℕ) (old : List (Record V)) (r : Result Stated TextFault) (S' : Contents V) (new : List (Record V)) : Type 0 where
    pub meaning : Meaning
    pub reads : Reads text (means meaning)
    pub good : AllGood meaning.terms S.n
    pub answer : r ≡ in_text (stated S (verdict_on K (length old) S label meaning)) meaning S.n
    pub leaves : S' ≡ after S (verdict_on K (length old) S label meaning)
    pub records : new ≡ records_after (verdict_on K (length old) S label meaning) old

  abbrev pub Tried : Contents V → ℕ → List ℕ → List (Record V) → Result Stated TextFault → Contents V → List (Record V) → Type 0
  Tried S label text old r S' new = Refuses S text old r S' new ⊎ States S label text old r S' new

  -- ---- the settled set points
  abbrev pub settled_text : (q : ℕ) → Result (Option V) SheetFault → List ℕ
  settled_text q (Ok (Some v)) = settled_row q (parts_told (K.tells v))
  settled_text q (Ok None) = []
  settled_text q (Err f) = []

  abbrev pub settled_one : Contents V → (q : ℕ) → List ℕ
  settled_one S q = settled_text q (settled_answer K S q)

  -- of the first m set points, rising
  abbrev pub settled_rows : Contents V → (m : ℕ) → List ℕ
  settled_rows S zero = []
  settled_rows S (suc m) = settled_rows S m ++ settled_one S (m + 1)

  -- a whole sheet: its lines, and then the set points that they settle
  abbrev pub opened : (n : ℕ) → Contents V
  opened n = record { n = n; number = 1; held = [] }

  pub record SheetDone (n : ℕ) (ls : List (ℕ × List ℕ)) (out : List ℕ) : Type 0 where
    pub rows : List ℕ
    pub last : Contents V
    pub done : LinesDone K (n + 1) (opened n) ls rows last
    pub output : out ≡ rows ++ settled_rows last last.n
