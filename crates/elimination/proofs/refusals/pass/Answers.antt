use Rattle.std.proofs.Common.{rules, ◌≡◌, true, false, length, sym, ap, ◌∙◌, arith}
use Rattle.elimination.specs.Refusals.{label_fits, limited}
use Rattle.elimination.proofs.Refused.{length_refused, room_refused, label_refused, by_limits}
use Rattle.elimination.proofs.refusals.pass.Goals as goal

pub returns-then-line-held-clause-answer : goal.returns-then-line-held-clause-answer
returns-then-line-held-clause-answer c =
    let a = c.args in
    sym (length_refused a.held.n (length a.held.entries.now) a.line.now a.label a.room (λ e. c.if-line-held.true (omega arith)))

pub returns-then-room-held-clause-answer : goal.returns-then-room-held-clause-answer
returns-then-room-held-clause-answer c =
    let a = c.args in
    sym (room_refused a.held.n (length a.held.entries.now) a.line.now a.label a.room (omega arith) c.if-room-held.true)

pub returns-then-not-contains-clause-answer : goal.returns-then-not-contains-clause-answer
returns-then-not-contains-clause-answer c =
    let a = c.args in
    let out : label_fits a.label ≡ false = search rules in
    sym (label_refused a.held.n (length a.held.entries.now) a.line.now a.label a.room (omega arith) c.if-room-held.false out)

pub returns-in-None-clause-answer : goal.returns-in-None-clause-answer
returns-in-None-clause-answer c =
    let a = c.args in
    let fits : label_fits a.label ≡ true = search rules in
    sym (by_limits a.held.n (length a.held.entries.now) a.line.now a.label a.room (omega arith) c.if-room-held.false fits ∙ ap limited (sym c.in-None.ensures.answer))

pub returns-in-Some-clause-answer : goal.returns-in-Some-clause-answer
returns-in-Some-clause-answer c =
    let a = c.args in
    let fits : label_fits a.label ≡ true = search rules in
    sym (by_limits a.held.n (length a.held.entries.now) a.line.now a.label a.room (omega arith) c.if-room-held.false fits ∙ ap limited (sym c.in-Some.ensures.answer))
