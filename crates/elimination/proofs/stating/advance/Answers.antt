use Rattle.std.proofs.Common.{◌≡◌, [], ◌∷◌, ◌++◌, map, length, drop, None, Ok, Err, sym, ap, ◌∙◌, subst, ap₂}
use Rattle.std.proofs.lemmas.Result.{err_from_is_err_and}
use Rattle.exact.specs.Answers.{value_of}
use Rattle.elimination.specs.declared.fault.StepFault.{StepFault}
use Rattle.elimination.specs.declared.fault.SheetFault.{SheetFault}
use Rattle.elimination.specs.declared.fault.SheetFault.TheVariants.{Numbers}
use Rattle.elimination.specs.Held.{wide, needed, lines_place, held_lines, lines_of, row_of}
use Rattle.elimination.specs.Outcome.{verdict_of}
use Rattle.elimination.specs.Stating.{course, records_after, held_after, entries_after, Answers}
use Rattle.elimination.specs.Steps.{refused, steps, judged}
use Rattle.elimination.specs.Working.{Left}
use Rattle.elimination.proofs.Concluding.{lines_kept, outcome, verdict_is, line_entered}
use Rattle.elimination.proofs.Frames.{only_lines}
use Rattle.elimination.proofs.Outcomes.{found_fault, found_none, found_some}
use Rattle.elimination.proofs.Places.{lines_fit, rest_past}
use Rattle.elimination.proofs.Ranges.{part}
use Rattle.elimination.proofs.Verdicts.{refused_held, refused_records, spent_held}
use Rattle.elimination.proofs.stating.advance.Goals as goal

pub returns-in_err-subject : goal.returns-in_err-subject
returns-in_err-subject g c =
    let K = g.K.Number.kind in
    let a = c.args in
    let h = a.held in
    let n = h.n in
    let es = h.entries.now in
    let m = a.memory.now in
    let hs = lines_of h m in
    let line = map (value_of K) a.line.now in
    let m₁ = c.open_row.new.memory in
    let m₂ = c.solve.new.memory in
    let x = c.open_row.ensures in
    let kept = lines_kept K h m m₁ line x.row x.only in
    let outcome_is = outcome K h m m₁ line x.row x.only in
    let is = verdict_is K h m m₁ line x.row x.only a.label in
    let rest : drop (needed n) m₂ ≡ drop (needed n) m = rest_past (lines_place n) (needed n) (lines_fit n) m₂ m (c.solve.ensures.lines ∙ only_lines n (length es) m m₁ x.only h.held) in
    let f = c.in_err-subject.field-0.0 in
    let p = err_from_is_err_and c.from_residual.result c.from_residual.ensures.1 in
    let says : c.from_residual.result ≡ Err (Numbers f) = p.1 ∙ ap Err p.2 in
    let out = found_fault outcome_is f (sym c.solve.ensures.answer ∙ c.in_err-subject.was) in
    let left : lines_of h m₂ ≡ lines_of h m₁ = subst (λ o. Left o h m₁ m₂) out c.solve.ensures.left in
    let end : steps K n hs a.label line ≡ refused (Numbers f) = is ∙ ap (verdict_of K n hs a.label line) out in
    record {
      answer = says ∙ sym (ap course end);
      proper = subst (Answers {E = SheetFault} n (length es)) (sym says) tt;
      held = refused_held (steps K n hs a.label line) f end n a.label es m₂ hs (left ∙ kept);
      records = refused_records (steps K n hs a.label line) f end a.records.now;
      rest = rest;
    }

pub returns-in-None : goal.returns-in-None
returns-in-None g c =
    let K = g.K.Number.kind in
    let a = c.args in
    let h = a.held in
    let n = h.n in
    let es = h.entries.now in
    let m = a.memory.now in
    let hs = lines_of h m in
    let line = map (value_of K) a.line.now in
    let m₁ = c.open_row.new.memory in
    let m₂ = c.solve.new.memory in
    let x = c.open_row.ensures in
    let kept = lines_kept K h m m₁ line x.row x.only in
    let outcome_is = outcome K h m m₁ line x.row x.only in
    let is = verdict_is K h m m₁ line x.row x.only a.label in
    let rest : drop (needed n) m₂ ≡ drop (needed n) m = rest_past (lines_place n) (needed n) (lines_fit n) m₂ m (c.solve.ensures.lines ∙ only_lines n (length es) m m₁ x.only h.held) in
    let out = found_none outcome_is (sym c.solve.ensures.answer ∙ c.in_ok-subject.was ∙ ap Ok c.in-None.is) in
    let w = out.0 in
    let left : (lines_of h m₂ ≡ lines_of h m₁) × (row_of h m₂ ≡ w) = subst (λ o. Left o h m₁ m₂) out.1 c.solve.ensures.left in
    let end : steps K n hs a.label line ≡ judged K n hs a.label line w None = is ∙ ap (verdict_of K n hs a.label line) out.1 in
    let row = part (wide n) c.working_row.ensures.start c.working_row.ensures.end m₂ ∙ left.1 in
    record {
      answer = c.spent.ensures.answer m line ∙ ap (λ u. course (judged K n hs a.label line u None)) row ∙ sym (ap course end);
      proper = c.spent.ensures.proper;
      held = subst (λ v. held_lines n m₂ 0 (entries_after v a.label es) ≡ held_after v hs) (sym end) (spent_held K n hs hs a.label line w es m₂ (left.0 ∙ kept));
      records = c.spent.ensures.records m line ∙ ap (λ u. records_after (judged K n hs a.label line u None) a.records.now) row ∙ sym (ap (λ v. records_after v a.records.now) end);
      rest = rest;
    }

pub returns-in-Some : goal.returns-in-Some
returns-in-Some g c =
    let K = g.K.Number.kind in
    let a = c.args in
    let h = a.held in
    let n = h.n in
    let es = h.entries.now in
    let m = a.memory.now in
    let hs = lines_of h m in
    let line = map (value_of K) a.line.now in
    let m₁ = c.open_row.new.memory in
    let m₂ = c.solve.new.memory in
    let x = c.open_row.ensures in
    let kept = lines_kept K h m m₁ line x.row x.only in
    let outcome_is = outcome K h m m₁ line x.row x.only in
    let is = verdict_is K h m m₁ line x.row x.only a.label in
    let rest : drop (needed n) m₂ ≡ drop (needed n) m = rest_past (lines_place n) (needed n) (lines_fit n) m₂ m (c.solve.ensures.lines ∙ only_lines n (length es) m m₁ x.only h.held) in
    let m₃ = c.write_line.new.memory in
    let q = c.in-Some.subject in
    let y = c.write_line.ensures in
    let out = found_some outcome_is q (sym c.solve.ensures.answer ∙ c.in_ok-subject.was ∙ ap Ok c.in-Some.is) in
    let w = out.0 in
    let others = out.1 in
    let left : (lines_of h m₂ ≡ others) × (row_of h m₂ ≡ w) = subst (λ o. Left o h m₁ m₂) out.2 c.solve.ensures.left in
    let end = is ∙ ap (verdict_of K n hs a.label line) out.2 in
    record {
      answer = sym (ap course end);
      proper = subst (Answers {E = StepFault} n (length es)) (c.in_ok-subject.was ∙ ap Ok c.in-Some.is) c.solve.ensures.proper;
      held = subst (λ v. held_lines n m₃ 0 (entries_after v a.label es) ≡ held_after v hs) (sym end)
          (line_entered h m₂ m₃ y.others a.label q ∙ ap₂ (λ gs l. gs ++ record { label = a.label; subject = q; line = l; row = row_of h m₂ } ∷ []) left.0 y.line
          ∙ ap (λ r. others ++ record { label = a.label; subject = q; line = line; row = r } ∷ []) left.1);
      records = sym (ap (λ v. records_after v a.records.now) end);
      rest = y.rest ∙ rest;
    }
