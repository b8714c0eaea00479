-- What a ledger has written.
use Rattle.std.specs.Prelude.{ℕ, Bool, false, cond, List, [], ◌∷◌, ◌++◌, length, Ok, Err, Result, nat_le, nat_lt, if◌then◌else◌}
use Rattle.bounded.specs.Items.{items}
use Rattle.ledger.specs.declared.entry.Entry.{Entry}
use Rattle.ledger.specs.declared.ledger.Ledger.{Ledger}
use Rattle.ledger.specs.declared.fault.LedgerFault.{LedgerFault}
use Rattle.ledger.specs.declared.fault.LedgerFault.TheVariants.{NoPlace, NoSetPoint}

pub record Listed : Type 0 where
  pub n : ℕ
  pub entries : List Entry

unfoldable pub listed : Ledger → Listed
listed l = record { n = l.n; entries = items l.entries }

abbrev pub empty : ℕ → Listed
empty n = record { n = cond (nat_le n 48) n 0; entries = [] }

abbrev pub holding : (label subject : ℕ) → Listed → Listed
holding label subject l = record { n = l.n; entries = l.entries ++ record { label = label; subject = subject } ∷ [] }

-- there is a place for a line, and its subject is a set point
abbrev pub may_hold : (subject : ℕ) → Listed → Bool
may_hold subject l = cond (nat_lt (length l.entries) l.n) (nat_lt subject l.n) false

-- the answer to a line: the place is asked for first
abbrev pub hold_answer : (subject : ℕ) → Listed → Result Unit LedgerFault
hold_answer subject l = if nat_lt (length l.entries) l.n then (if nat_lt subject l.n then Ok tt else Err NoSetPoint) else Err NoPlace
