-- Waiting for a set point, and taking a wait back.
use Rattle.std.specs.Prelude.{ℕ, Bool, cond, not, Ok, Err, Result}
use Rattle.ledger.specs.Waiting.{stands, placed, without}
use Rattle.sheet.specs.declared.fault.WaitFault.{WaitFault}
use Rattle.sheet.specs.declared.fault.WaitFault.TheVariants.{SetPoint, Waiting, NotWaiting}
use Rattle.sheet.specs.Stored.{Stored, with_waits}
use Rattle.sheet.specs.Reading.{is_set_point}

-- what comes of two tests, the first of them first
abbrev pub by_tests : {X : Type 0} → (point may : Bool) → (outside refused done : X) → X
by_tests point may outside refused done = cond point (cond may done refused) outside

module _ {V : Type 0} (S : Stored V) (q : ℕ) where
  -- a wait for q stands
  abbrev pub waited : Bool
  waited = stands q S.waits

  unfoldable pub wait_answer : Result Unit WaitFault
  wait_answer = by_tests (is_set_point S.contents.n q) (not waited) (Err SetPoint) (Err Waiting) (Ok tt)

  unfoldable pub wait_after : Stored V
  wait_after = by_tests (is_set_point S.contents.n q) (not waited) S S (with_waits S (placed q S.waits))

  unfoldable pub drop_answer : Result Unit WaitFault
  drop_answer = by_tests (is_set_point S.contents.n q) waited (Err SetPoint) (Err NotWaiting) (Ok tt)

  unfoldable pub drop_after : Stored V
  drop_after = by_tests (is_set_point S.contents.n q) waited S S (with_waits S (without q S.waits))
