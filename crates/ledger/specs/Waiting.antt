-- The set points that are waited for, the oldest wait first.
use Rattle.std.specs.Prelude.{ℕ, Bool, true, false, cond, not, List, [], ◌∷◌, ◌++◌, map, filter, ◌==◌, nat_le, Ok, Err, Result, if◌then◌else◌}
use Rattle.bounded.specs.Items.{items}
use Rattle.ledger.specs.declared.fault.LedgerFault.{LedgerFault}
use Rattle.ledger.specs.declared.fault.LedgerFault.TheVariants.{NoSetPoint, WaitStands, NoWait}
use Rattle.ledger.specs.declared.waits.Waits.{Waits}

unfoldable pub waiting : Waits → List ℕ
waiting w = map (λ x. x.set_point) (items w.waits)

-- a wait for q stands
abbrev pub stands : (q : ℕ) → List ℕ → Bool
stands q [] = false
stands q (p ∷ ps) = cond (p == q) true (stands q ps)

-- q is from 1 to 48, and no wait for it stands
abbrev pub may_wait : (q : ℕ) → List ℕ → Bool
may_wait q ps = cond (cond (nat_le 1 q) (nat_le q 48) false) (not (stands q ps)) false

abbrev pub placed : (q : ℕ) → List ℕ → List ℕ
placed q ps = ps ++ q ∷ []

abbrev pub without : (q : ℕ) → List ℕ → List ℕ
without q = filter (λ p. not (p == q))

-- the answer to a wait: whether q is a set point is asked first
abbrev pub place_answer : (q : ℕ) → List ℕ → Result Unit LedgerFault
place_answer q ps = if cond (nat_le 1 q) (nat_le q 48) false then (if stands q ps then Err WaitStands else Ok tt) else Err NoSetPoint

abbrev pub remove_answer : (q : ℕ) → List ℕ → Result Unit LedgerFault
remove_answer q ps = if stands q ps then Ok tt else Err NoWait
