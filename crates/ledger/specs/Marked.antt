-- How many lines were held when each open trial was opened, the newest trial first.
use Rattle.std.specs.Prelude.{ℕ, Bool, List, [], ◌∷◌, length, reverse, Some, None, Option, Ok, Err, Result, nat_lt, if◌then◌else◌}
use Rattle.bounded.specs.Items.{items}
use Rattle.ledger.specs.declared.fault.LedgerFault.{LedgerFault}
use Rattle.ledger.specs.declared.fault.LedgerFault.TheVariants.{NoPlace}
use Rattle.ledger.specs.declared.marks.Marks.{Marks}

unfoldable pub marked : Marks → List ℕ
marked m = reverse (items m.counts)

-- fewer than eight trials are open
abbrev pub may_push : List ℕ → Bool
may_push ms = nat_lt (length ms) 8

abbrev pub push_answer : List ℕ → Result Unit LedgerFault
push_answer ms = if may_push ms then Ok tt else Err NoPlace

abbrev pub newest_of : List ℕ → Option ℕ
newest_of [] = None
newest_of (m ∷ ms) = Some m

abbrev pub older : List ℕ → List ℕ
older [] = []
older (m ∷ ms) = ms
