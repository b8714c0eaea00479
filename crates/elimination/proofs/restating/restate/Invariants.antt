use Rattle.ledger.specs.Listed.{listed}
use Rattle.elimination.proofs.Restated.{Gone}
use Rattle.elimination.proofs.restating.restate.Given as goal

abbrev pub invariant-loop-place : goal.invariant-loop-place
invariant-loop-place g l = Gone g.K.Number.kind (listed l.initial.ledger) l.initial.memory l.again l.place (listed l.ledger) l.memory
