use Rattle.std.proofs.Common.{◌≡◌, ℕ, ◌≤◌, List, [], ◌∷◌, length, drop, Ok, Err, Option, Result, sym, refl, ap, ◌∙◌, subst, ap₂, arith}
use Rattle.ledger.specs.declared.entry.Entry.{Entry}
use Rattle.ledger.specs.Listed.{listed}
use Rattle.elimination.specs.declared.fault.StepFault.{StepFault}
use Rattle.elimination.specs.Held.{lines_place, row_at, held_lines, held_in, row_in, size_in, entries_in}
use Rattle.elimination.specs.Outcome.{spent, found, work}
use Rattle.elimination.specs.Working.{working, Left, Remains}
use Rattle.elimination.specs.Stating.{Answers}
use Rattle.elimination.proofs.Always.{work_always}
use Rattle.elimination.proofs.Remaining.{held_is, row_shown, left_shows}
use Rattle.elimination.proofs.Shown.{has_place}
use Rattle.elimination.proofs.Outcomes.{nothing_left}
use Rattle.elimination.proofs.working.work.Goals as goal

no_entries : (es : List Entry) → length es ≤ 0 → es ≡ []
no_entries [] h = refl
no_entries (e ∷ es) h = absurd (omega arith)

no_fault : (o : Option ℕ) (f : StepFault) → ◌≡◌ {A = Result (Option ℕ) StepFault} (Ok o) (Err f) → ⊥
no_fault o f e = let z : ◌≡◌ {A = ℕ} 0 1 = cc in omega arith

pub returns-then-held-eq0 : goal.returns-then-held-eq0
returns-then-held-eq0 g c =
    let K = g.K.Number.kind in
    let l = listed c.args.ledger.now in
    let m = c.args.memory.now in
    let n = c.fitting-held.result.n in
    let es = c.fitting-held.result.entries.now in
    let size = c.fitting-held.ensures.size in
    let none : es ≡ [] = no_entries es (let h = c.fitting-held.result.held in let z = c.if-held-eq0.true in omega (arith, h, z)) in
    let held : held_in l m ≡ [] = sym (held_is l (length m) n es size c.fitting-held.ensures.entries m refl) ∙ ap (held_lines n m 0) none in
    let all : working K l m ≡ spent (row_in l m) = ap₂ (λ k hs. work K k hs (row_in l m)) (sym size ∙ c.if-held-eq0.true) held ∙ nothing_left K (row_in l m) in
    record { answer = sym (ap found all); proper = tt; left = subst (λ o. Remains o l m m) (sym all) (refl, refl); lines = refl; always = λ _ f d. no_fault _ f d }

pub returns : goal.returns
returns g c =
    let K = g.K.Number.kind in
    let l = listed c.args.ledger.now in
    let m = c.args.memory.now in
    let m' = c.solve.new.memory in
    let n = c.fitting-held.result.n in
    let es = c.fitting-held.result.entries.now in
    let size = c.fitting-held.ensures.size in
    let entries = c.fitting-held.ensures.entries in
    let x = c.solve.ensures in
    let is : work K n (held_lines n m 0 es) (row_at n m (length es)) ≡ working K l m = ap (λ k. work K k (held_lines n m 0 es) (row_at n m (length es))) size
    ∙ ap₂ (work K (size_in l (length m))) (held_is l (length m) n es size entries m refl) (row_shown l (length m) n es size entries m refl) in
    let says : c.solve.result ≡ found (working K l m) = x.answer ∙ ap found is in
    let proper : Answers (size_in l (length m)) (length (entries_in l (length m))) c.solve.result = subst (λ k. Answers k (length (entries_in l (length m))) c.solve.result) size (subst (λ xs. Answers n (length xs) c.solve.result) entries x.proper) in
    record {
      answer = says;
      proper = has_place l (length m) c.solve.result proper;
      left = left_shows l (length m) c.fitting-held.result size entries (working K l m) m m' refl c.solve.auto.memory (subst (λ o. Left o c.fitting-held.result m m') is x.left);
      lines = subst (λ k. drop (lines_place k) m' ≡ drop (lines_place k) m) size x.lines;
      always = λ all f d. work_always g.K.Number.laws all (size_in l (length m)) (held_in l m) (row_in l m) f (sym says ∙ d);
    }
