use Rattle.std.proofs.Common.{◌≡◌, cond, leb, [], length, take, drop, sym, ap, ◌∙◌, subst, ap₂}
use Rattle.ledger.specs.Listed.{listed}
use Rattle.ledger.specs.Marked.{marked, older}
use Rattle.ledger.specs.Waiting.{waiting}
use Rattle.elimination.specs.Held.{needed, used, size_in, held_in}
use Rattle.elimination.specs.Again.{restated}
use Rattle.sheet.specs.Contents.{contents}
use Rattle.sheet.specs.Stored.{Stored, stored, with_marks}
use Rattle.sheet.specs.Trials.{mark_of}
use Rattle.sheet.proofs.Opened.{closed_is}
use Rattle.sheet.proofs.sheet.Sheet.withdraw.Goals as goal

pub returns-clause-stored : goal.returns-clause-stored
unfolding stored contents
returns-clause-stored g c =
    let K = g.K.Number.kind in
    let S = stored c.args.self.now in
    let s₁ = c.close.new.self in
    let l₂ = listed c.restate.new.ledger in
    let m₂ = c.restate.new.memory in
    let held = c.in_ok-held.held in
    let closed = closed_is S K c.args.trial held (sym c.close.ensures.answer ∙ c.in_ok-held.was) in
    let e : stored s₁ ≡ with_marks S (older S.marks) = c.close.ensures.stored ∙ closed.1 in
    let x = c.restate.ensures in
    let size : size_in l₂ (length m₂) ≡ S.contents.n = ap₂ (λ k have. cond (leb (needed k) have) k 0) x.size c.restate.auto.memory ∙ ap (λ (T : Stored _). T.contents.n) e in
    let lines : held_in l₂ m₂ ≡ restated K S.contents.n [] (take (mark_of S.marks) S.contents.held) = x.held ∙ ap₂ (λ k hs. restated K k [] (take held hs)) (ap (λ (T : Stored _). T.contents.n) e) (ap (λ (T : Stored _). T.contents.held) e) ∙ ap (λ k. restated K S.contents.n [] (take k S.contents.held)) closed.0 in
    ap₂ (λ k hs. record { contents = record { n = k; number = s₁.number; held = hs }; marks = marked s₁.marks; waits = waiting s₁.waits }) size lines
    ∙ ap (λ (T : Stored _). record { contents = record { n = S.contents.n; number = T.contents.number; held = restated K S.contents.n [] (take (mark_of S.marks) S.contents.held) }; marks = T.marks; waits = T.waits }) e ∙ sym closed.2

pub returns-clause-rest : goal.returns-clause-rest
unfolding stored contents
returns-clause-rest g c =
    let S = stored c.args.self.now in
    let closed = closed_is S g.K.Number.kind c.args.trial c.in_ok-held.held (sym c.close.ensures.answer ∙ c.in_ok-held.was) in
    let e : stored c.close.new.self ≡ with_marks S (older S.marks) = c.close.ensures.stored ∙ closed.1 in
    subst (λ k. drop (used k) c.restate.new.memory ≡ drop (used k) c.close.new.self.memory.now) (ap (λ (T : Stored _). T.contents.n) e) c.restate.ensures.rest
    ∙ ap (drop (used S.contents.n)) c.close.ensures.memory
