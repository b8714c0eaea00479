use Rattle.std.proofs.Common.{◌≡◌, ◌+◌, ◌≤◌, List, [], ◌∷◌, map, length, drop, Err, sym, refl, ap, ◌∙◌, subst, ap₂, arith}
use Rattle.std.proofs.lemmas.Result.{err_from_is_err_and}
use Rattle.exact.specs.Answers.{value_of}
use Rattle.ledger.specs.declared.entry.Entry.{Entry}
use Rattle.ledger.specs.Listed.{listed}
use Rattle.elimination.specs.Held.{used, size_in, entries_in, held_lines, held_in}
use Rattle.elimination.specs.Stating.{stating, course, held_after, records_after, entered, entries_after, Answers, HasPlace}
use Rattle.elimination.specs.Steps.{steps}
use Rattle.elimination.proofs.Always.{stating_sure}
use Rattle.elimination.proofs.Shown.{held_is, verdict_refused, verdict_steps, entered_shows, has_place}
use Rattle.elimination.proofs.Verdicts.{used_all, bare_unmoved}
use Rattle.elimination.proofs.stating.state_line.Goals as goal

pub returns-in_err-pass : goal.returns-in_err-pass
returns-in_err-pass g c =
    let K = g.K.Number.kind in
    let a = c.args in
    let l = listed a.ledger.now in
    let m = a.memory.now in
    let room = length a.records.now in
    let n = c.fitting-held.result.n in
    let es = c.fitting-held.result.entries.now in
    let size = c.fitting-held.ensures.size in
    let entries = c.fitting-held.ensures.entries in
    let f = c.in_err-pass.field-0.0 in
    let p = err_from_is_err_and c.from_residual.result c.from_residual.ensures.1 in
    let says : c.from_residual.result ≡ Err f = p.1 ∙ ap Err p.2 in
    let e = verdict_refused K l m a.line.now a.label room n es size entries f (sym c.pass.ensures.answer ∙ c.in_err-pass.was) in
    record {
      answer = says ∙ sym (ap course e);
      proper = subst (HasPlace l) (sym says) tt;
      held = subst (λ v. held_in (entered v a.label l) m ≡ held_after v (held_in l m)) (sym e) refl;
      records = sym (ap (λ v. records_after v a.records.now) e);
      rest = refl;
      always = λ all f' d. stating_sure g.K.Number.laws all (size_in l (length m)) (held_in l m) a.line.now a.label room f' (ap course e ∙ sym says ∙ d);
    }

no_entries : (es : List Entry) → length es ≤ 0 → es ≡ []
no_entries [] h = refl
no_entries (e ∷ es) h = absurd (omega arith)

pub returns-then-held-eq0 : goal.returns-then-held-eq0
returns-then-held-eq0 g c =
    let K = g.K.Number.kind in
    let a = c.args in
    let l = listed a.ledger.now in
    let m = a.memory.now in
    let room = length a.records.now in
    let n = c.fitting-held.result.n in
    let es = c.fitting-held.result.entries.now in
    let size = c.fitting-held.ensures.size in
    let entries = c.fitting-held.ensures.entries in
    let none : es ≡ [] = no_entries es (let h = c.fitting-held.result.held in let z = c.if-held-eq0.true in omega (arith, h, z)) in
    let values = map (value_of K) a.line.now in
    let e = verdict_steps K l m a.line.now a.label room n es size entries (sym c.pass.ensures.answer ∙ c.in_ok-pass.was)
    ∙ ap₂ (λ k xs. steps K k (held_lines k m 0 xs) a.label values) c.if-held-eq0.true none in
    let x = c.bare.ensures in
    let v = stating K (size_in l (length m)) (held_in l m) a.line.now a.label room in
    let says : c.bare.result ≡ course v = x.answer ∙ sym (ap course e) in
    let proper : Answers (size_in l (length m)) (length (entries_in l (length m))) c.bare.result =
    subst (λ k. Answers k (length (entries_in l (length m))) c.bare.result) (sym c.if-held-eq0.true ∙ size) (subst (λ xs. Answers 0 (length xs) c.bare.result) (sym none ∙ entries) x.proper) in
    let unmoved = bare_unmoved K a.label a.line.now ((c.in_ok-pass.ensures.passes refl).long ∙ ap (λ k. k + 1) c.if-held-eq0.true) l (held_in l m) in
    record {
      answer = says;
      proper = has_place l (length m) c.bare.result proper;
      held = ap (λ u. held_in (entered u a.label l) m) e ∙ ap (λ t. held_in t m) unmoved.0 ∙ sym unmoved.1 ∙ ap (λ u. held_after u (held_in l m)) (sym e);
      records = x.records ∙ sym (ap (λ u. records_after u a.records.now) e);
      rest = refl;
      always = λ all f' d. stating_sure g.K.Number.laws all (size_in l (length m)) (held_in l m) a.line.now a.label room f' (sym says ∙ d);
    }

pub returns : goal.returns
returns g c =
    let K = g.K.Number.kind in
    let a = c.args in
    let l = listed a.ledger.now in
    let m = a.memory.now in
    let m' = c.advance.new.memory in
    let room = length a.records.now in
    let n = c.fitting-held.result.n in
    let es = c.fitting-held.result.entries.now in
    let size = c.fitting-held.ensures.size in
    let entries = c.fitting-held.ensures.entries in
    let e = verdict_steps K l m a.line.now a.label room n es size entries (sym c.pass.ensures.answer ∙ c.in_ok-pass.was) in
    let x = c.advance.ensures in
    let says : c.advance.result ≡ course (stating K (size_in l (length m)) (held_in l m) a.line.now a.label room) = x.answer ∙ sym (ap course e) in
    let proper : Answers (size_in l (length m)) (length (entries_in l (length m))) c.advance.result = subst (λ k. Answers k (length (entries_in l (length m))) c.advance.result) size (subst (λ xs. Answers n (length xs) c.advance.result) entries x.proper) in
    let same : length m' ≡ length m = c.advance.auto.memory in
    let v = stating K (size_in l (length m)) (held_in l m) a.line.now a.label room in
    record {
      answer = says;
      proper = has_place l (length m) c.advance.result proper;
      held = entered_shows l m m' same a.label v (subst (Answers (size_in l (length m)) (length (entries_in l (length m)))) says proper)
          ∙ ap₂ (λ k xs. held_lines k m' 0 (entries_after v a.label xs)) (sym size) (sym entries)
          ∙ ap (λ u. held_lines n m' 0 (entries_after u a.label es)) e ∙ x.held ∙ ap₂ held_after (sym e) (held_is K l m a.line.now a.label room n es size entries);
      records = x.records ∙ sym (ap (λ u. records_after u a.records.now) e);
      rest = let u : used (size_in l (length m)) ≡ _ = ap used (sym size) ∙ used_all n (omega arith) in ap (λ k. drop k m') u ∙ x.rest ∙ ap (λ k. drop k m) (sym u);
      always = λ all f' d. stating_sure g.K.Number.laws all (size_in l (length m)) (held_in l m) a.line.now a.label room f' (sym says ∙ d);
    }
