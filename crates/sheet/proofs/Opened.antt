-- The mark of the innermost trial, and what its close leaves.
use Rattle.std.proofs.Common.{◌≡◌, ℕ, Bool, true, false, cond, List, [], ◌∷◌, length, Some, IsSome, Ok, Err, Result, sym, refl, arith}
use Rattle.std.proofs.Common.{eqb, None}
use Rattle.std.proofs.lemmas.Bool.Decides.{nat_tests}
use Rattle.exact.specs.Kind.{Kind}
use Rattle.ledger.specs.Marked.{newest_of, older}
use Rattle.sheet.proofs.Cases.{ok_no_err}
use Rattle.sheet.specs.declared.fault.TrialFault.TheVariants.{OtherTrial}
use Rattle.sheet.specs.declared.trial.HandedBack.{HandedBack}
use Rattle.sheet.specs.declared.trial.Trial.{Trial}
use Rattle.sheet.specs.Stored.{Stored, with_marks}
use Rattle.sheet.specs.Trials.{mark_of, innermost, closing, keep_after, taken_back, withdraw_after}

-- whether a trial is the innermost
module _ {V : Type 0} (S : Stored V) (t : Trial) where
  pub none_open : length S.marks ≡ 0 → innermost S t ≡ false
  none_open e = grind (arith, nat_tests)

  pub other_sheet : (t.number ≡ S.contents.number → ⊥) → innermost S t ≡ false
  other_sheet n = grind (arith, nat_tests)

  pub same_sheet : (length S.marks ≡ 0 → ⊥) → t.number ≡ S.contents.number → innermost S t ≡ eqb t.depth (length S.marks)
  same_sheet n e = grind (arith, nat_tests)

-- the mark of the innermost trial
pub has_newest : (ms : List ℕ) → (length ms ≡ 0 → ⊥) → IsSome (newest_of ms)
has_newest [] some = absurd (some refl)
has_newest (m ∷ ms) some = refl

pub newest_none : (ms : List ℕ) → newest_of ms ≡ None → length ms ≡ 0
newest_none [] e = refl
newest_none (m ∷ ms) e = let z : ◌≡◌ {A = ℕ} 0 1 = cc in absurd (omega arith)

pub newest_some : (ms : List ℕ) (held : ℕ) → newest_of ms ≡ Some held → held ≡ mark_of ms
newest_some [] held e = let z : ◌≡◌ {A = ℕ} 0 1 = cc in absurd (omega arith)
newest_some (m ∷ ms) held e = let d : held ≡ m = cc in d

-- a trial that is refused, and one that is closed
module _ {V : Type 0} (S : Stored V) (K : Kind V) (t : Trial) where
  pub refused_stays : (b : HandedBack) → closing S t ≡ Err b → (keep_after S t ≡ S) × (withdraw_after S K t ≡ S)
  unfolding closing keep_after withdraw_after
  refused_stays b = go (innermost S t)
    where
      go : (i : Bool) → cond {A = Result ℕ HandedBack} i (Ok (mark_of S.marks)) (Err (record { trial = t; fault = OtherTrial })) ≡ Err b → (cond i (with_marks S (older S.marks)) S ≡ S) × (cond i (taken_back S K) S ≡ S)
      go true e = ok_no_err e
      go false e = (refl, refl)

  pub closed_is : (held : ℕ) → closing S t ≡ Ok held → (held ≡ mark_of S.marks) × (keep_after S t ≡ with_marks S (older S.marks)) × (withdraw_after S K t ≡ taken_back S K)
  unfolding closing keep_after withdraw_after
  closed_is held = go (innermost S t)
    where
      go : (i : Bool) → cond {A = Result ℕ HandedBack} i (Ok (mark_of S.marks)) (Err (record { trial = t; fault = OtherTrial })) ≡ Ok held → (held ≡ mark_of S.marks) × (cond i (with_marks S (older S.marks)) S ≡ with_marks S (older S.marks)) × (cond i (taken_back S K) S ≡ taken_back S K)
      go true e = (let d : held ≡ mark_of S.marks = cc in d, refl, refl)
      go false e = ok_no_err (sym e)
