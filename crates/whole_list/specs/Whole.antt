-- A list that is taken whole or not at all.
use Rattle.std.specs.Prelude.{ℕ, Bool, cond, List, ℤ, is_ok, Ok, Err, Result}
use Rattle.exact.specs.Kind.{Kind}
use Rattle.exact.specs.declared.report.Report.{Report}
use Rattle.elimination.specs.declared.record.Record.{Record}
use Rattle.sheet.specs.declared.fault.ListFault.{ListFault}
use Rattle.sheet.specs.declared.fault.TrialFault.{TrialFault}
use Rattle.sheet.specs.declared.trial.Trial.{Trial}
use Rattle.sheet.specs.Faults.{trial_report}
use Rattle.sheet.specs.Listing.{Checked, checking, list_report}
use Rattle.sheet.specs.Stored.{Stored, with_contents}
use Rattle.sheet.specs.Trials.{open_answer, open_after, keep_after, withdraw_after}
use Rattle.whole_list.specs.declared.WholeFault.{WholeFault}
use Rattle.whole_list.specs.declared.WholeFault.TheVariants.{NotOpened, Stopped}

abbrev pub whole_report : WholeFault → Report
whole_report (NotOpened f) = trial_report f
whole_report (Stopped f) = list_report f

-- what the check answered
abbrev pub checked_answer : Result ℕ ListFault → Result ℕ WholeFault
checked_answer (Ok next) = Ok next
checked_answer (Err f) = Err (Stopped f)

-- the answer, and what then stands
pub record CheckedWhole (V : Type 0) : Type 0 where
  pub answer : Result ℕ WholeFault
  pub stored : Stored V
  pub records : List (Record V)

module _ {V : Type 0} (K : Kind V) where
  -- the trial closed by what the check in it answered: kept where every line passed, else withdrawn
  abbrev pub closed : (passed : Bool) → Stored V → Trial → Stored V
  closed passed S t = cond passed (keep_after S t) (withdraw_after S K t)

  -- over S, in which the trial is open
  abbrev pub in_trial : Stored V → Checked V → Trial → CheckedWhole V
  in_trial S c t = record { answer = checked_answer c.answer; stored = closed (is_ok c.answer) (with_contents S c.contents) t; records = c.records }

  -- by what opening answers: with no trial all is left as it was
  abbrev pub if_opened : Result Trial TrialFault → Stored V → List ℤ → (first : ℕ) → List (Record V) → CheckedWhole V
  if_opened (Ok t) S list first rs = in_trial (open_after S) (checking K (open_after S).contents list first rs) t
  if_opened (Err f) S list first rs = record { answer = Err (NotOpened f); stored = S; records = rs }

  unfoldable pub checking_whole : Stored V → List ℤ → (first : ℕ) → List (Record V) → CheckedWhole V
  checking_whole S list first rs = if_opened (open_answer S) S list first rs
