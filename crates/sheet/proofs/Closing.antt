-- What a caller can tell of trials: when one closes, and what is then as before.
use Rattle.std.proofs.Common.{◌≡◌, ℕ, ◌+◌, ◌<◌, Bool, true, false, cond, List, [], ◌∷◌, length, ℤ, Ok, Err, Result, sym, refl, ap, ◌∙◌, add-one, arith}
use Rattle.std.proofs.lemmas.Bool.{ltb-true}
use Rattle.std.proofs.lemmas.Bool.Decides.{nat_tests}
use Rattle.exact.specs.Kind.{Kind}
use Rattle.ledger.specs.Marked.{may_push}
use Rattle.rows.specs.Row.{done}
use Rattle.elimination.specs.declared.fault.SheetFault.{SheetFault}
use Rattle.elimination.specs.declared.record.Record.{Record}
use Rattle.elimination.specs.Stating.{records_after}
use Rattle.sheet.proofs.Cases.{ok_no_err}
use Rattle.sheet.specs.declared.fault.TrialFault.{TrialFault}
use Rattle.sheet.specs.declared.fault.TrialFault.TheVariants.{Depth, OtherTrial}
use Rattle.sheet.specs.declared.trial.HandedBack.{HandedBack}
use Rattle.sheet.specs.declared.trial.Trial.{Trial}
use Rattle.sheet.specs.Contents.{Contents, verdict, stated, after}
use Rattle.sheet.specs.Stored.{Stored, with_contents, with_marks}
use Rattle.sheet.specs.Listing.{Checked, list_refusal, unless_stopped, checked_from, checking}
use Rattle.sheet.specs.Trials.{mark_of, next_trial, open_answer, open_after, innermost, closing, close_answer}

module _ {V : Type 0} where
  -- T has the size, the number and the open trials of S
  pub record Keeps (S T : Stored V) : Type 0 where
    pub n : T.contents.n ≡ S.contents.n
    pub number : T.contents.number ≡ S.contents.number
    pub marks : T.marks ≡ S.marks

  pub same : {S T : Stored V} → T ≡ S → Keeps S T
  same e = record { n = ap (λ X. X.contents.n) e; number = ap (λ X. X.contents.number) e; marks = ap (λ X. X.marks) e }

  pub through : {S T U : Stored V} → Keeps S T → Keeps T U → Keeps S U
  through a b = record { n = b.n ∙ a.n; number = b.number ∙ a.number; marks = b.marks ∙ a.marks }

  -- ---- what opens and closes no trial: B has the size and the number of A
  record Sized (A B : Contents V) : Type 0 where
    pub n : B.n ≡ A.n
    pub number : B.number ≡ A.number

  on_sized : {A B C : Contents V} → Sized A B → Sized B C → Sized A C
  on_sized a b = record { n = b.n ∙ a.n; number = b.number ∙ a.number }

  unless_sized : {X : Type 0} (r : Result X SheetFault) (i : ℕ) {A B : Contents V} (rs : List (Record V)) (more : Checked V) → Sized A B → Sized A more.contents → Sized A (unless_stopped r i B rs more).contents
  unless_sized (Ok x) i rs more stopped on = on
  unless_sized (Err f) i rs more stopped on = stopped

  lines_sized : (K : Kind V) (i label : ℕ) (ls : List (List ℤ)) (A : Contents V) (rs : List (Record V)) → Sized A (checked_from K i label ls A rs).contents
  lines_sized K i label [] A rs = record { n = refl; number = refl }
  lines_sized K i label (l ∷ ls) A rs =
      let v = verdict K A l label (length rs) in
      let line : Sized A (after A v) = record { n = refl; number = refl } in
      unless_sized (stated A v) i (records_after v rs) _ line (on_sized line (lines_sized K (i + 1) (label + 1) ls (after A v) (records_after v rs)))

  checking_sized : (K : Kind V) (A : Contents V) (list : List ℤ) (first : ℕ) (rs : List (Record V)) → Sized A (checking K A list first rs).contents
  unfolding checking
  checking_sized K A list first rs = unless_sized (list_refusal A.n (length list) first (length rs)) 0 rs _ (record { n = refl; number = refl }) (lines_sized K 1 first _ A rs)

  pub checking_keeps : (K : Kind V) (S : Stored V) (list : List ℤ) (first : ℕ) (rs : List (Record V)) → Keeps S (with_contents S (checking K S.contents list first rs).contents)
  checking_keeps K S list first rs = let s = checking_sized K S.contents list first rs in record { n = s.n; number = s.number; marks = refl }

  -- ---- opening
  module _ (S : Stored V) where
    pub opened_is : (t : Trial) → open_answer S ≡ Ok t → (t ≡ next_trial S) × (open_after S ≡ with_marks S (length S.contents.held ∷ S.marks)) × (length S.marks < 8)
    unfolding open_answer open_after
    opened_is t = go (may_push S.marks) refl
      where
        go : (b : Bool) → may_push S.marks ≡ b → cond {A = Result Trial TrialFault} b (Ok (next_trial S)) (Err Depth) ≡ Ok t
            → (t ≡ next_trial S) × (cond b (with_marks S (length S.contents.held ∷ S.marks)) S ≡ with_marks S (length S.contents.held ∷ S.marks)) × (length S.marks < 8)
        go true few e = (let d : t ≡ next_trial S = cc in d, refl, ltb-true (length S.marks) 8 few)
        go false few e = ok_no_err (sym e)

    pub not_opened : (f : TrialFault) → open_answer S ≡ Err f → (f ≡ Depth) × (open_after S ≡ S)
    unfolding open_answer open_after
    not_opened f = go (may_push S.marks)
      where
        go : (b : Bool) → cond {A = Result Trial TrialFault} b (Ok (next_trial S)) (Err Depth) ≡ Err f → (f ≡ Depth) × (cond b (with_marks S (length S.contents.held ∷ S.marks)) S ≡ S)
        go true e = ok_no_err e
        go false e = (let d : f ≡ Depth = cc in d, refl)

  -- ---- closing
  in_turn : (T : Stored V) (t : Trial) → 0 < length T.marks → t.number ≡ T.contents.number → t.depth ≡ length T.marks → innermost T t ≡ true
  in_turn T t some number depth = grind (arith, nat_tests)

  -- a trial that was opened over S closes where no other has been opened since and left open
  module _ (S : Stored V) (t : Trial) (opened : open_answer S ≡ Ok t) (T : Stored V) (k : Keeps (open_after S) T) where
    marks_are : T.marks ≡ length S.contents.held ∷ S.marks
    marks_are = k.marks ∙ ap (λ X. X.marks) (opened_is S t opened).1

    pub size : T.contents.n ≡ S.contents.n
    size = k.n ∙ ap (λ X. X.contents.n) (opened_is S t opened).1

    number_is : T.contents.number ≡ S.contents.number
    number_is = k.number ∙ ap (λ X. X.contents.number) (opened_is S t opened).1

    is_innermost : innermost T t ≡ true
    is_innermost =
        let is = (opened_is S t opened).0 in
        let deep : length T.marks ≡ length S.marks + 1 = ap length marks_are ∙ sym (add-one (length S.marks)) in
        in_turn T t (omega arith) (ap (λ x. x.number) is ∙ sym number_is) (ap (λ x. x.depth) is ∙ sym deep)

    pub closes : closing T t ≡ Ok (length S.contents.held)
    unfolding closing
    closes = ap (λ (b : Bool). cond b (Ok (mark_of T.marks)) (Err (record { trial = t; fault = OtherTrial }))) is_innermost ∙ ap (λ ms. Ok (mark_of ms)) marks_are

    pub never_back : (b : HandedBack) → close_answer T t ≡ Err b → ⊥
    never_back b e = ok_no_err (sym (ap done closes) ∙ e)
