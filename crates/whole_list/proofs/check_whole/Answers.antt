use Rattle.std.proofs.Common.{◌≡◌, drop, Err, sym, ap, ◌∙◌, rules}
use Rattle.std.proofs.lemmas.Result.{err_from_is_err_and}
use Rattle.elimination.specs.Held.{used}
use Rattle.sheet.specs.Contents.{contents}
use Rattle.sheet.specs.Stored.{stored}
use Rattle.whole_list.specs.Whole.{checked_answer}
use Rattle.whole_list.proofs.Tried.{closes_well, not_tried, still_open, tried, past}
use Rattle.whole_list.proofs.check_whole.Goals as goal
use Rattle.whole_list.proofs.check_whole.Goals.{then-is_ok, else-is_ok}

pub returns-in_err-trial : goal.returns-in_err-trial
returns-in_err-trial g c =
    let a = c.args in
    let o = c.open.ensures in
    let p = err_from_is_err_and c.from_residual.result c.from_residual.ensures.1 in
    let d = not_tried g.K.Number.kind (stored a.sheet.now) (stored c.open.new.self) a.list.now a.first a.records.now o.stored c.in_err-trial.field-0.0 (sym o.answer ∙ c.in_err-trial.was) in
    record {
      answer = p.1 ∙ ap Err p.2 ∙ sym (ap (λ x. x.answer) d);
      stored = sym (ap (λ x. x.stored) d);
      records = sym (ap (λ x. x.records) d);
      rest = ap (drop (used (contents a.sheet.now).n)) o.memory;
      lender = o.lender;
    }

pub unwrap-requires : goal.unwrap-requires
unfolding stored
unwrap-requires g c =
    let a = c.args in
    let x = c.check-answer in
    let S = stored a.sheet.now in
    let T = stored x.new.self in
    let t = c.in_ok-trial.trial in
    let opened = sym c.open.ensures.answer ∙ c.in_ok-trial.was in
    let stays = still_open g.K.Number.kind S (stored c.open.new.self) a.list.now a.first a.records.now c.open.ensures.stored t opened (contents x.new.self) x.ensures.contents T x.ensures.apart in
    let ends = closes_well S t opened T stays in
    elim c.if-is_ok.branch [
      | then-is_ok w ↦ ends c.if-is_ok.closed (w.closed-is ∙ w.keep-closed.ensures.answer)
      | else-is_ok w ↦ ends c.if-is_ok.closed (w.closed-is ∙ w.withdraw-closed.ensures.answer)
    ]

pub returns : goal.returns
unfolding stored
returns g c =
    let K = g.K.Number.kind in
    let a = c.args in
    let s = a.sheet.now in
    let s₁ = c.open.new.self in
    let s₂ = c.check-answer.new.self in
    let o = c.open.ensures in
    let x = c.check-answer.ensures in
    let t = c.in_ok-trial.trial in
    let opened = sym c.open.ensures.answer ∙ c.in_ok-trial.was in
    let comes_to = tried K (stored s) (stored s₁) a.list.now a.first a.records.now o.stored t opened (contents s₂) x.contents (stored s₂) x.apart c.check-answer.result c.check-answer.new.records in
    let rest = past K (stored s) (stored s₁) a.list.now a.first a.records.now o.stored t opened (contents s₂) x.contents (stored s₂) x.apart s.memory.now s₁.memory.now s₂.memory.now in
    let says : c.map_err.result ≡ checked_answer c.check-answer.result = search rules in
    elim c.if-is_ok.branch [
      | then-is_ok w ↦
          let y = w.keep-closed.ensures in
          let d = comes_to _ x.answer x.records w.if-is_ok.ensures.value in
          record {
            answer = says ∙ sym (ap (λ r. r.answer) d);
            stored = ap stored w.sheet-is ∙ y.stored ∙ sym (ap (λ r. r.stored) d);
            records = sym (ap (λ r. r.records) d);
            rest = ap (λ z. drop (used (contents s).n) z.memory.now) w.sheet-is ∙ rest _ o.memory x.rest (ap (drop (used (contents s₂).n)) y.memory);
            lender = ap (λ z. z.memory.ghost_name) w.sheet-is ∙ y.lender ∙ x.lender ∙ o.lender;
          }
      | else-is_ok w ↦
          let y = w.withdraw-closed.ensures in
          let d = comes_to _ x.answer x.records w.if-is_ok.ensures.value in
          record {
            answer = says ∙ sym (ap (λ r. r.answer) d);
            stored = ap stored w.sheet-is ∙ y.stored ∙ sym (ap (λ r. r.stored) d);
            records = sym (ap (λ r. r.records) d);
            rest = ap (λ z. drop (used (contents s).n) z.memory.now) w.sheet-is ∙ rest _ o.memory x.rest y.rest;
            lender = ap (λ z. z.memory.ghost_name) w.sheet-is ∙ y.lender ∙ x.lender ∙ o.lender;
          }
    ]
