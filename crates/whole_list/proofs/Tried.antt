-- What a list comes to in its trial.
use Rattle.std.proofs.Common.{◌≡◌, ℕ, Bool, List, drop, ℤ, is_ok, IsOk, Ok, Err, Result, sym, refl, ap, ◌∙◌, subst, ap₂}
use Rattle.exact.specs.Kind.{Kind}
use Rattle.elimination.specs.Held.{used}
use Rattle.elimination.specs.declared.record.Record.{Record}
use Rattle.sheet.specs.declared.fault.ListFault.{ListFault}
use Rattle.sheet.specs.declared.fault.TrialFault.{TrialFault}
use Rattle.sheet.specs.declared.trial.HandedBack.{HandedBack}
use Rattle.sheet.specs.declared.trial.Trial.{Trial}
use Rattle.sheet.specs.Contents.{Contents}
use Rattle.sheet.specs.Listing.{checking}
use Rattle.sheet.specs.Stored.{Stored, with_contents}
use Rattle.sheet.specs.Trials.{open_answer, open_after, close_answer}
use Rattle.sheet.proofs.Closing.{Keeps, same, through, checking_keeps, not_opened, never_back, size}
use Rattle.whole_list.specs.declared.WholeFault.TheVariants.{NotOpened}
use Rattle.whole_list.specs.Whole.{checked_answer, closed, in_trial, if_opened, checking_whole}

-- a trial that was opened over S closes where no other has been opened since and left open
pub closes_well : {V : Type 0} (S : Stored V) (t : Trial) (opened : open_answer S ≡ Ok t) (T : Stored V) → Keeps (open_after S) T → (r : Result Unit HandedBack) → r ≡ close_answer T t → IsOk r
closes_well S t opened T k (Ok x) e = refl
closes_well S t opened T k (Err b) e = absurd (never_back S t opened T k b (sym e))

-- over S a trial is asked for, and S₁ is what stands then
module _ {V : Type 0} (K : Kind V) (S S₁ : Stored V) (list : List ℤ) (first : ℕ) (rs : List (Record V)) (opening : S₁ ≡ open_after S) where
  pub not_tried : (f : TrialFault) → open_answer S ≡ Err f → checking_whole K S list first rs ≡ record { answer = Err (NotOpened f); stored = S₁; records = rs }
  unfolding checking_whole
  not_tried f e =
      ap (λ o. if_opened K o S list first rs) e
      ∙ ap (λ X. record { answer = Err (NotOpened f); stored = X; records = rs }) (sym (not_opened S f e).1 ∙ sym opening)

  -- T is what the check leaves in the trial, with the contents C
  module _ (t : Trial) (opened : open_answer S ≡ Ok t) (C : Contents V) (checked : C ≡ (checking K S₁.contents list first rs).contents) (T : Stored V) (apart : T ≡ with_contents S₁ C) where
    left : T ≡ with_contents S₁ (checking K S₁.contents list first rs).contents
    left = apart ∙ ap (with_contents S₁) checked

    pub still_open : Keeps (open_after S) T
    still_open = through (same opening) (through (checking_keeps K S₁ list first rs) (same left))

    pub tried : (answer : Result ℕ ListFault) (rs' : List (Record V)) (passed : Bool)
        → answer ≡ (checking K S₁.contents list first rs).answer → rs' ≡ (checking K S₁.contents list first rs).records → passed ≡ is_ok answer
        → checking_whole K S list first rs ≡ record { answer = checked_answer answer; stored = closed K passed T t; records = rs' }
    unfolding checking_whole
    tried answer rs' passed says written is =
        ap (λ o. if_opened K o S list first rs) opened
        ∙ ap (λ X. in_trial K X (checking K X.contents list first rs) t) (sym opening)
        ∙ ap (λ X. record { answer = checked_answer (checking K S₁.contents list first rs).answer; stored = closed K (is_ok (checking K S₁.contents list first rs).answer) X t; records = (checking K S₁.contents list first rs).records }) (sym left)
        ∙ ap₂ (λ r xs. record { answer = checked_answer r; stored = closed K (is_ok r) T t; records = xs }) (sym says) (sym written)
        ∙ ap (λ b. record { answer = checked_answer answer; stored = closed K b T t; records = rs' }) (sym is)

    -- memory past the sheet: m, then m₁ as the trial is opened, m₂ by the check, m₃ by the close
    module _ (m m₁ m₂ m₃ : List V) where
      pub past : m₁ ≡ m → drop (used S₁.contents.n) m₂ ≡ drop (used S₁.contents.n) m₁ → drop (used T.contents.n) m₃ ≡ drop (used T.contents.n) m₂ → drop (used S.contents.n) m₃ ≡ drop (used S.contents.n) m
      past same_memory by-check by-close =
          subst (λ k. drop (used k) m₃ ≡ drop (used k) m₂) (size S t opened T still_open) by-close
          ∙ subst (λ k. drop (used k) m₂ ≡ drop (used k) m₁) (size S t opened S₁ (same opening)) by-check
          ∙ ap (drop (used S.contents.n)) same_memory
