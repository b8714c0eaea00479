-- What a sheet stores, and what stating a line makes of it.
use Rattle.std.specs.Prelude.{ℕ, ◌+◌, Bool, false, cond, List, [], length, ℤ, Ok, Err, Result, nat_le}
use Rattle.exact.specs.Kind.{Kind}
use Rattle.ledger.specs.Listed.{listed}
use Rattle.elimination.specs.declared.fault.SheetFault.{SheetFault}
use Rattle.elimination.specs.declared.fault.SheetFault.TheVariants.{Size, Clash}
use Rattle.elimination.specs.Held.{HeldLine, needed, size_in, held_in}
use Rattle.elimination.specs.Stating.{stating, held_after}
use Rattle.elimination.specs.Steps.{Verdict, refused, follows, clash, taken}
use Rattle.sheet.specs.declared.answer.Stated.{Stated}
use Rattle.sheet.specs.declared.answer.Stated.TheVariants.{Follows, Held}
use Rattle.sheet.specs.declared.sheet.Sheet.{Sheet}

-- n set points, the sheet's number, and the held lines with their rows by place
pub record Contents (V : Type 0) : Type 0 where
  pub n : ℕ
  pub number : ℕ
  pub held : List (HeldLine V)

-- the place of the rows in memory, and what else the memory has, are left open by this
unfoldable pub contents : {V : Type 0} → Sheet V → Contents V
contents s = record { n = size_in (listed s.ledger) (length s.memory.now); number = s.number; held = held_in (listed s.ledger) s.memory.now }

-- 1 to 48 set points
abbrev pub size_fits : ℕ → Bool
size_fits n = cond (nat_le 1 n) (nat_le n 48) false

-- how many numbers a sheet needs, or refusal 1
abbrev pub measured : (n have : ℕ) → Result ℕ SheetFault
measured n have = cond (size_fits n) (cond (nat_le (needed n) have) (Ok (needed n)) (Err Size)) (Err Size)

-- how many set points a sheet has that is made over so many numbers: none where measuring refuses
abbrev pub size_made : Result ℕ SheetFault → ℕ → ℕ
size_made (Ok k) n = n
size_made (Err f) n = 0

abbrev pub fresh : {V : Type 0} → (n number have : ℕ) → Contents V
fresh n number have = record { n = size_made (measured n have) n; number = number; held = [] }

-- the verdict on a line, with room for so many records
abbrev pub verdict : {V : Type 0} → Kind V → Contents V → List ℤ → (label room : ℕ) → Verdict V
verdict K S line label room = stating K S.n S.held line label room

abbrev pub stated : {V : Type 0} → Contents V → Verdict V → Result Stated SheetFault
stated S (refused f) = Err f
stated S follows = Ok Follows
stated S (clash rs) = Err (Clash (length rs))
stated S (taken q hs) = Ok (Held (length S.held + 1))

abbrev pub after : {V : Type 0} → Contents V → Verdict V → Contents V
after S v = record { n = S.n; number = S.number; held = held_after v S.held }
