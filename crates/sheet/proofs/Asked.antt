-- What the test for a set point comes to.
use Rattle.std.proofs.Common.{◌≡◌, ℕ, ◌≤◌, Bool, true, false, cond, not, leb, List, arith}
use Rattle.std.proofs.lemmas.Bool.Decides.{nat_tests}
use Rattle.ledger.specs.declared.ledger.Ledger.{Ledger}
use Rattle.ledger.specs.Listed.{listed}
use Rattle.ledger.specs.Waiting.{stands, may_wait}
use Rattle.elimination.specs.Held.{needed, size_in}
use Rattle.sheet.specs.Reading.{is_set_point}

few : (l : Ledger) (have : ℕ) → size_in (listed l) have ≤ 48
unfolding listed
few l have = go (leb (needed l.n) have)
  where
    go : (b : Bool) → cond b l.n 0 ≤ 48
    go true = l.few
    go false = omega arith

-- a set point of a sheet is among the 48
pub free : (l : Ledger) (have q : ℕ) (ps : List ℕ) → is_set_point (size_in (listed l) have) q ≡ true → may_wait q ps ≡ not (stands q ps)
free l have q ps e = inside (size_in (listed l) have) (few l have) e
  where
    inside : (n : ℕ) → n ≤ 48 → is_set_point n q ≡ true → may_wait q ps ≡ not (stands q ps)
    inside n h e = grind (arith, nat_tests)
