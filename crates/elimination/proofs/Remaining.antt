-- What a ledger shows over a memory of the held lines and the working row.
use Rattle.std.proofs.Common.{◌≡◌, ℕ, ◌<◌, Bool, true, false, cond, ltb, List, [], length, sym, refl, ap, ◌∙◌, ap₂, arith}
use Rattle.std.proofs.lemmas.Bool.Decides.{nat_tests}
use Rattle.exact.specs.Kind.{Kind}
use Rattle.ledger.specs.declared.entry.Entry.{Entry}
use Rattle.ledger.specs.Listed.{Listed, may_hold}
use Rattle.elimination.specs.declared.held.Held.{Held}
use Rattle.elimination.specs.Held.{fits, size_in, entries_in, row_at, held_lines, lines_of, row_of, held_in, row_in}
use Rattle.elimination.specs.Outcome.{Outcome, stuck, spent, solved, work}
use Rattle.elimination.specs.Working.{Left, working, Remains}
use Rattle.elimination.proofs.Frames.{held_length}

-- a ledger that has a place for a line shows one, if it shows a set point
pub place_free : (l : Listed) (have q : ℕ) → 0 < size_in l have → may_hold q l ≡ true → length (entries_in l have) < size_in l have
place_free l have q = go (fits l have)
  where
    less : (b : Bool) → ltb (length l.entries) l.n ≡ b → cond b (ltb q l.n) false ≡ true → length l.entries < l.n
    less true e t = grind (arith, nat_tests)
    less false e t = let z : ◌≡◌ {A = ℕ} 0 1 = cc in absurd (omega arith)

    go : (b : Bool) → 0 < cond b l.n 0 → may_hold q l ≡ true → length (cond b l.entries []) < cond b l.n 0
    go true p t = less (ltb (length l.entries) l.n) refl t
    go false p t = absurd (omega arith)

-- the held lines and the working row, by the size and the entries that were found over a memory of this length
module _ {V : Type 0} (l : Listed) (have n : ℕ) (es : List Entry) (size : n ≡ size_in l have) (entries : es ≡ entries_in l have) where
  pub held_is : (m : List V) → length m ≡ have → held_lines n m 0 es ≡ held_in l m
  unfolding held_in
  held_is m e = ap₂ (λ k xs. held_lines k m 0 xs) size entries ∙ ap (λ i. held_lines (size_in l i) m 0 (entries_in l i)) (sym e)

  pub row_shown : (m : List V) → length m ≡ have → row_at n m (length es) ≡ row_in l m
  unfolding row_in
  row_shown m e = ap₂ (λ k xs. row_at k m (length xs)) size entries ∙ ap (λ i. row_at (size_in l i) m (length (entries_in l i))) (sym e)

module _ {V : Type 0} (l : Listed) (have : ℕ) (h : Held) (size : h.n ≡ size_in l have) (entries : h.entries.now ≡ entries_in l have) where
  pub lines_shown : (m : List V) → length m ≡ have → lines_of h m ≡ held_in l m
  lines_shown = held_is l have h.n h.entries.now size entries

  row : (m : List V) → length m ≡ have → row_of h m ≡ row_in l m
  row = row_shown l have h.n h.entries.now size entries

  pub left_shows : (o : Outcome V) (m m' : List V) → length m ≡ have → length m' ≡ have → Left o h m m' → Remains o l m m'
  left_shows (stuck f) m m' e d s = sym (lines_shown m' d) ∙ s ∙ lines_shown m e
  left_shows (spent w) m m' e d s = (sym (lines_shown m' d) ∙ s.0 ∙ lines_shown m e, sym (row m' d) ∙ s.1)
  left_shows (solved q w hs) m m' e d s = (sym (lines_shown m' d) ∙ s.0, sym (row m' d) ∙ s.1)

  -- and back: what the ledger shows is what the size and the entries show
  pub shown_leaves : (o : Outcome V) (m m' : List V) → length m ≡ have → length m' ≡ have → Remains o l m m' → Left o h m m'
  shown_leaves (stuck f) m m' e d s = lines_shown m' d ∙ s ∙ sym (lines_shown m e)
  shown_leaves (spent w) m m' e d s = (lines_shown m' d ∙ s.0 ∙ sym (lines_shown m e), row m' d ∙ s.1)
  shown_leaves (solved q w hs) m m' e d s = (lines_shown m' d ∙ s.0, row m' d ∙ s.1)

  pub working_is : (K : Kind V) (m : List V) → length m ≡ have → working K l m ≡ work K h.n (lines_of h m) (row_of h m)
  working_is K m e = ap₂ (λ k hs. work K k hs (row_in l m)) (ap (size_in l) e ∙ sym size) (sym (lines_shown m e)) ∙ ap (work K h.n (lines_of h m)) (sym (row m e))

-- as many held lines as entries
pub held_count : {V : Type 0} (l : Listed) (m : List V) → length (held_in l m) ≡ length (entries_in l (length m))
unfolding held_in
held_count l m = held_length (size_in l (length m)) m 0 (entries_in l (length m))

-- a ledger without entries shows no line
pub nothing_held : {V : Type 0} (l : Listed) (m : List V) → l.entries ≡ [] → held_in l m ≡ []
unfolding held_in
nothing_held l m e = ap (held_lines (size_in l (length m)) m 0) (ap (λ es. cond (fits l (length m)) es []) e ∙ go (fits l (length m)))
  where
    go : (b : Bool) → cond {A = List Entry} b [] [] ≡ []
    go true = refl
    go false = refl
