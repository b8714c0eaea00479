-- The verdict on a line by what the steps made of its working row, and the line once it is entered.
use Rattle.std.proofs.Common.{◌≡◌, ℕ, List, [], ◌∷◌, ◌++◌, length, sym, ap, ◌∙◌, ap₂, arith}
use Rattle.exact.specs.Kind.{Kind}
use Rattle.elimination.specs.declared.held.Held.{Held}
use Rattle.elimination.specs.Held.{line_at, held_line, held_lines, lines_of, row_of, OnlyRow, OtherLines}
use Rattle.elimination.specs.Outcome.{Outcome, work, verdict_of}
use Rattle.elimination.specs.Steps.{opening, steps}
use Rattle.elimination.proofs.Frames.{held_length, held_more, only_held}
use Rattle.elimination.proofs.Judging.{steps_by_work}
use Rattle.elimination.proofs.Writing.{row_kept, others_held}

-- the working row is set up
module _ {V : Type 0} (K : Kind V) (h : Held) (m m₁ line : List V) (row : row_of h m₁ ≡ opening K h.n (length h.entries.now) line) (only : OnlyRow h.n (length h.entries.now) m m₁) where
  pub lines_kept : lines_of h m₁ ≡ lines_of h m
  lines_kept = only_held h.n (length h.entries.now) m m₁ only h.held h.entries.now (omega arith)

  abbrev pub outcome : Outcome V
  outcome = work K h.n (lines_of h m₁) (row_of h m₁)

  pub verdict_is : (label : ℕ) → steps K h.n (lines_of h m) label line ≡ verdict_of K h.n (lines_of h m) label line outcome
  verdict_is label = steps_by_work K h.n (lines_of h m) label line
      ∙ ap (verdict_of K h.n (lines_of h m) label line) (ap₂ (work K h.n) (sym lines_kept) (ap (λ i. opening K h.n i line) (held_length h.n m 0 h.entries.now) ∙ sym row))

-- a line is entered after the others
module _ {V : Type 0} (h : Held) (m m' : List V) (others : OtherLines h.n (length h.entries.now) m m') (label q : ℕ) where
  pub line_entered : held_lines h.n m' 0 (h.entries.now ++ record { label = label; subject = q } ∷ []) ≡ lines_of h m ++ record { label = label; subject = q; line = line_at h.n m' (length h.entries.now); row = row_of h m } ∷ []
  unfolding held_line
  line_entered =
      let n = h.n in
      let es = h.entries.now in
      held_more n m' 0 es (record { label = label; subject = q })
      ∙ ap₂ (λ gs i. gs ++ held_line n m' i (record { label = label; subject = q }) ∷ []) (others_held n (length es) m m' others es (omega arith) h.held) (omega arith)
      ∙ ap (λ r. lines_of h m ++ record { label = label; subject = q; line = line_at n m' (length es); row = r } ∷ []) (row_kept n (length es) m m' others (length es) h.held)
