-- What a ledger shows over a memory after the steps, by the set points and entries that it shows.
use Rattle.std.proofs.Common.{◌≡◌, ℕ, ◌<◌, Bool, true, false, cond, List, [], ◌∷◌, ◌++◌, length, sym, refl, ap, ◌∙◌, subst, ap₂, arith}
use Rattle.exact.specs.Kind.{Kind}
use Rattle.ledger.specs.declared.entry.Entry.{Entry}
use Rattle.ledger.specs.Listed.{Listed, holding}
use Rattle.elimination.specs.declared.held.Held.{Held}
use Rattle.elimination.specs.Held.{fits, size_in, entries_in, line_at, held_lines, lines_of, held_in}
use Rattle.elimination.specs.Steps.{steps}
use Rattle.elimination.proofs.Remaining.{lines_shown}

-- a line that is entered in a ledger with set points, as the ledger then shows it
entered_shows : {V : Type 0} (l : Listed) (m : List V) (label q : ℕ) → 0 < size_in l (length m) → held_in (holding label q l) m ≡ held_lines (size_in l (length m)) m 0 (entries_in l (length m) ++ record { label = label; subject = q } ∷ [])
unfolding held_in
entered_shows l m label q = go (fits l (length m))
  where
    go : (b : Bool) → 0 < cond b l.n 0 → held_lines (cond b l.n 0) m 0 (cond b (l.entries ++ record { label = label; subject = q } ∷ []) []) ≡ held_lines (cond b l.n 0) m 0 (cond b l.entries [] ++ record { label = label; subject = q } ∷ [])
    go true p = refl
    go false p = absurd (omega arith)

module _ {V : Type 0} (l : Listed) (m : List V) (h : Held) (size : h.n ≡ size_in l (length m)) (entries : h.entries.now ≡ entries_in l (length m)) where
  pub steps_are : (K : Kind V) (label place : ℕ) → steps K (size_in l (length m)) (held_in l m) label (line_at (size_in l (length m)) m place) ≡ steps K h.n (lines_of h m) label (line_at h.n m place)
  steps_are K label place = ap₂ (λ k hs. steps K k hs label (line_at k m place)) (sym size) (sym (lines_shown l (length m) h size entries m refl))

  module _ (m' : List V) (same : length m' ≡ length m) where
    pub still_shown : lines_of h m' ≡ lines_of h m → held_in l m' ≡ held_in l m
    still_shown e = sym (lines_shown l (length m) h size entries m' same) ∙ e ∙ lines_shown l (length m) h size entries m refl

    pub entered_shown : (label q : ℕ) → 0 < h.n → held_in (holding label q l) m' ≡ held_lines h.n m' 0 (h.entries.now ++ record { label = label; subject = q } ∷ [])
    entered_shown label q b =
        let e : Entry = record { label = label; subject = q } in
        entered_shows l m' label q (subst (λ k. 0 < size_in l k) (sym same) (subst (λ k. 0 < k) size b))
        ∙ ap (λ k. held_lines (size_in l k) m' 0 (entries_in l k ++ e ∷ [])) same
        ∙ ap₂ (λ k xs. held_lines k m' 0 (xs ++ e ∷ [])) (sym size) (sym entries)
