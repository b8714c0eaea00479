use Rattle.std.proofs.Common.{◌≡◌, ℕ, ◌+◌, ◌<◌, [], ◌∷◌, ◌++◌, length, take, drop, Some, Ok, sym, ap, ◌∙◌, subst, ap₂, arith}
use Rattle.std.specs.Option.{option_flatten}
use Rattle.std.specs.Result.{result_ok}
use Rattle.ledger.specs.Listed.{listed}
use Rattle.elimination.specs.declared.fault.StepFault.{StepFault}
use Rattle.elimination.specs.Held.{lines_place, line_place, line_at, size_in, entries_in, held_in, lines_of, row_of}
use Rattle.elimination.specs.Outcome.{solved, found, verdict_of}
use Rattle.elimination.specs.Again.{taken_for}
use Rattle.elimination.specs.Stating.{held_after, entered, HasPlaceFor, HasPlace}
use Rattle.elimination.specs.Steps.{steps}
use Rattle.elimination.specs.Working.{Left, working, Remains}
use Rattle.elimination.proofs.Concluding.{lines_kept, outcome, verdict_is, line_entered}
use Rattle.elimination.proofs.Frames.{only_lines}
use Rattle.elimination.proofs.Outcomes.{found_some, subject_found, found_taken, untaken_left, untaken_moves, untaken_is}
use Rattle.elimination.proofs.Places.{rest_past}
use Rattle.elimination.proofs.Remaining.{shown_leaves, working_is}
use Rattle.elimination.proofs.Worked.{steps_are, still_shown, entered_shown}
use Rattle.elimination.proofs.again.restate_line.Goals as goal

pub returns : goal.returns
returns g c =
    let K = g.K.Number.kind in
    let l = listed c.args.ledger.now in
    let m = c.args.memory.now in
    let h = c.fitting-held.result in
    let n = h.n in
    let size = c.fitting-held.ensures.size in
    let entries = c.fitting-held.ensures.entries in
    let place = c.args.place in
    let line = line_at n m place in
    let m₁ = c.open_row_again.new.memory in
    let m₂ = c.work.new.memory in
    let same₁ = c.open_row_again.auto.memory in
    let same = c.work.auto.memory ∙ same₁ in
    let x = c.open_row_again.ensures in
    let o = outcome K h m m₁ line x.row x.only in
    let is : (label : ℕ) → steps K (size_in l (length m)) (held_in l m) label (line_at (size_in l (length m)) m place) ≡ verdict_of K n (lines_of h m) label line o =
    λ label. steps_are l m h size entries K label place ∙ verdict_is K h m m₁ line x.row x.only label in
    let lines : drop (lines_place n) m₂ ≡ drop (lines_place n) m = subst (λ k. drop (lines_place k) m₂ ≡ drop (lines_place k) m₁) (ap (size_in l) same₁ ∙ sym size) c.work.ensures.lines ∙ only_lines n (length h.entries.now) m m₁ x.only h.held in
    let later : drop (line_place n (place + 1)) m₂ ≡ drop (line_place n (place + 1)) m = rest_past (lines_place n) (line_place n (place + 1)) (omega arith) m₂ m lines in
    let m₃ = c.move_line.new.memory in
    let q = c.in_ok-subject.subject in
    let y = c.work.ensures in
    let made : working K l m₁ ≡ o = working_is l (length m) h size entries K m₁ same₁ in
    let answer : c.work.result ≡ found o = y.answer ∙ ap found made in
    let stays : Left o h m₁ m₂ = shown_leaves l (length m) h size entries o m₁ m₂ same₁ same (subst (λ u. Remains u l m₁ m₂) made y.left) in
    let flat : subject_found o ≡ c.flatten.result = ap (λ r. option_flatten (result_ok r)) (sym answer) ∙ ap option_flatten (sym c.ok.ensures.value) ∙ sym c.flatten.ensures in
    let some = found_taken o q (flat ∙ c.in_ok-subject.was) in
    let z = c.move_line.ensures in
    let out = found_some o q some in
    let w = out.0 in
    let others = out.1 in
    let left : (lines_of h m₂ ≡ others) × (row_of h m₂ ≡ w) = subst (λ u. Left u h m₁ m₂) out.2 stays in
    let proper : HasPlaceFor l (Some q) = subst (HasPlace l) (answer ∙ some) y.proper in
    let some_point : 0 < n = let b = c.requires.place in omega (arith, b, size) in
    let own : line_at n m₃ (length h.entries.now) ≡ line = z.line ∙ ap (take (n + 1)) (rest_past (lines_place n) (line_place n place) (omega arith) m₂ m lines) in
    let new : (label : ℕ) → held_in (entered (verdict_of K n (lines_of h m) label line (solved q w others)) label l) m₃ ≡ held_after (verdict_of K n (lines_of h m) label line (solved q w others)) (held_in l m) =
    λ label. entered_shown l m h size entries m₃ (c.move_line.auto.memory ∙ same) label q some_point ∙ line_entered h m₂ m₃ z.others label q
    ∙ ap₂ (λ gs v. gs ++ record { label = label; subject = q; line = v; row = row_of h m₂ } ∷ []) left.0 own
    ∙ ap (λ r. others ++ record { label = label; subject = q; line = line; row = r } ∷ []) left.1 in
    record {
      answer = λ label. sym (ap taken_for (is label ∙ ap (verdict_of K n (lines_of h m) label line) out.2));
      proper = proper;
      held = λ label. subst (λ u. held_in (entered u label l) m₃ ≡ held_after u (held_in l m)) (sym (is label ∙ ap (verdict_of K n (lines_of h m) label line) out.2)) (new label);
      later = subst (λ k. drop (line_place k (place + 1)) m₃ ≡ drop (line_place k (place + 1)) m) size (z.later ∙ later);
    }

pub returns-in_err-subject : goal.returns-in_err-subject
returns-in_err-subject g c =
    let K = g.K.Number.kind in
    let l = listed c.args.ledger.now in
    let m = c.args.memory.now in
    let h = c.fitting-held.result in
    let n = h.n in
    let size = c.fitting-held.ensures.size in
    let entries = c.fitting-held.ensures.entries in
    let place = c.args.place in
    let line = line_at n m place in
    let m₁ = c.open_row_again.new.memory in
    let m₂ = c.work.new.memory in
    let same₁ = c.open_row_again.auto.memory in
    let same = c.work.auto.memory ∙ same₁ in
    let x = c.open_row_again.ensures in
    let o = outcome K h m m₁ line x.row x.only in
    let is : (label : ℕ) → steps K (size_in l (length m)) (held_in l m) label (line_at (size_in l (length m)) m place) ≡ verdict_of K n (lines_of h m) label line o =
    λ label. steps_are l m h size entries K label place ∙ verdict_is K h m m₁ line x.row x.only label in
    let lines : drop (lines_place n) m₂ ≡ drop (lines_place n) m = subst (λ k. drop (lines_place k) m₂ ≡ drop (lines_place k) m₁) (ap (size_in l) same₁ ∙ sym size) c.work.ensures.lines ∙ only_lines n (length h.entries.now) m m₁ x.only h.held in
    let later : drop (line_place n (place + 1)) m₂ ≡ drop (line_place n (place + 1)) m = rest_past (lines_place n) (line_place n (place + 1)) (omega arith) m₂ m lines in
    let y = c.work.ensures in
    let made : working K l m₁ ≡ o = working_is l (length m) h size entries K m₁ same₁ in
    let answer : c.work.result ≡ found o = y.answer ∙ ap found made in
    let stays : Left o h m₁ m₂ = shown_leaves l (length m) h size entries o m₁ m₂ same₁ same (subst (λ u. Remains u l m₁ m₂) made y.left) in
    let flat : subject_found o ≡ c.flatten.result = ap (λ r. option_flatten (result_ok r)) (sym answer) ∙ ap option_flatten (sym c.ok.ensures.value) ∙ sym c.flatten.ensures in
    let none = flat ∙ c.in_err-subject.was in
    let kept = still_shown l m h size entries m₂ same (untaken_left o none h m₁ m₂ stays ∙ lines_kept K h m m₁ line x.row x.only) in
    record {
      answer = λ label. c.from_residual.ensures ∙ sym (ap taken_for (is label) ∙ untaken_is o none K n (lines_of h m) label line);
      proper = subst (HasPlaceFor l) (sym c.from_residual.ensures) tt;
      held = λ label. let unmoved = untaken_moves o none K n (lines_of h m) label line l (held_in l m) in
          subst (λ u. held_in (entered u label l) m₂ ≡ held_after u (held_in l m)) (sym (is label)) (ap (λ t. held_in t m₂) unmoved.0 ∙ kept ∙ sym unmoved.1);
      later = subst (λ k. drop (line_place k (place + 1)) m₂ ≡ drop (line_place k (place + 1)) m) size later;
    }
