-- Opening a trial, and closing it: its lines stay, or are taken back.
use Rattle.std.specs.Prelude.{ℕ, ◌+◌, Bool, false, cond, List, [], ◌∷◌, length, take, Ok, Err, Result, ◌==◌, nat_lt}
use Rattle.exact.specs.Kind.{Kind}
use Rattle.ledger.specs.Marked.{may_push, older}
use Rattle.rows.specs.Row.{done}
use Rattle.elimination.specs.Again.{restated}
use Rattle.sheet.specs.declared.fault.TrialFault.{TrialFault}
use Rattle.sheet.specs.declared.fault.TrialFault.TheVariants.{Depth, OtherTrial}
use Rattle.sheet.specs.declared.trial.Trial.{Trial}
use Rattle.sheet.specs.declared.trial.HandedBack.{HandedBack}
use Rattle.sheet.specs.Stored.{Stored, with_held, with_marks}

-- the newest mark
abbrev pub mark_of : List ℕ → ℕ
mark_of [] = 0
mark_of (m ∷ ms) = m

module _ {V : Type 0} (S : Stored V) where
  -- the trial that would be opened next
  abbrev pub next_trial : Trial
  next_trial = record { number = S.contents.number; depth = length S.marks + 1 }

  unfoldable pub open_answer : Result Trial TrialFault
  open_answer = cond (may_push S.marks) (Ok next_trial) (Err Depth)

  unfoldable pub open_after : Stored V
  open_after = cond (may_push S.marks) (with_marks S (length S.contents.held ∷ S.marks)) S

  -- the open trial of this sheet that was opened last; where none is open, none is
  abbrev pub innermost : Trial → Bool
  innermost t = cond (nat_lt 0 (length S.marks)) (cond (t.number == S.contents.number) (t.depth == length S.marks) false) false

  -- its mark, where it is the innermost
  unfoldable pub closing : Trial → Result ℕ HandedBack
  closing t = cond (innermost t) (Ok (mark_of S.marks)) (Err (record { trial = t; fault = OtherTrial }))

  -- either way of closing
  abbrev pub close_answer : Trial → Result Unit HandedBack
  close_answer t = done (closing t)

  unfoldable pub keep_after : Trial → Stored V
  keep_after t = cond (innermost t) (with_marks S (older S.marks)) S

  -- the lines that its mark counts are stated again, from none on
  abbrev pub taken_back : Kind V → Stored V
  taken_back K = with_held (with_marks S (older S.marks)) (restated K S.contents.n [] (take (mark_of S.marks) S.contents.held))

  unfoldable pub withdraw_after : Kind V → Trial → Stored V
  withdraw_after K t = cond (innermost t) (taken_back K) S
