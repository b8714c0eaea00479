-- What a ledger shows over a memory.
use Rattle.std.proofs.Common.{◌≡◌, ℕ, zero, suc, ◌<◌, ◌≤◌, Bool, true, false, cond, ltb, leb, List, [], ◌∷◌, ◌++◌, map, length, ℤ, Some, None, Ok, Err, Option, Result, sym, refl, ap, ◌∙◌, ap₂, arith}
use Rattle.exact.specs.Kind.{Kind}
use Rattle.exact.specs.Answers.{value_of}
use Rattle.ledger.specs.declared.entry.Entry.{Entry}
use Rattle.ledger.specs.declared.ledger.Ledger.{Ledger}
use Rattle.ledger.specs.Listed.{Listed, listed, holding, may_hold}
use Rattle.elimination.specs.declared.fault.SheetFault.{SheetFault}
use Rattle.elimination.specs.Held.{needed, used, fits, size_in, entries_in, held_lines, held_in}
use Rattle.elimination.specs.Refusals.{refusal}
use Rattle.elimination.specs.Stating.{unless, stating, course, Answers, HasPlace, entered, entries_after}
use Rattle.elimination.specs.Steps.{Verdict, refused, follows, clash, taken, steps}
use Rattle.elimination.proofs.Frames.{held_length}
use Rattle.elimination.proofs.Tests.{at_most, less}
use Rattle.elimination.proofs.Tests.{above}

-- a ledger keeps to its size
pub sound_size : (l : Ledger) → ((listed l).n ≤ 48) × (length (listed l).entries ≤ (listed l).n)
unfolding listed
sound_size l = (l.few, l.held)

used_fits : (n have : ℕ) → needed n ≤ have → used n ≤ have
used_fits zero have h = omega arith
used_fits (suc n) have h = h

module _ (l : Listed) (have : ℕ) where
  pub shown : needed l.n ≤ have → (size_in l have ≡ l.n) × (entries_in l have ≡ l.entries) × (used l.n ≤ have)
  shown h = let t = at_most (needed l.n) have h in (ap (λ b. cond b l.n 0) t, ap (λ b. cond b l.entries []) t, used_fits l.n have h)

  pub hidden : have < needed l.n → (size_in l have ≡ 0) × (entries_in l have ≡ [])
  hidden h = let t = above (needed l.n) have h in (ap (λ b. cond b l.n 0) t, ap (λ b. cond b l.entries []) t)

-- a line with a subject, over what a ledger shows, has its place in the ledger
module _ (l : Listed) (have : ℕ) where
  pub in_fit : (b : Bool) (q : ℕ) → q < cond b l.n 0 → length (cond b l.entries []) < cond b l.n 0 → may_hold q l ≡ true
  in_fit true q s h = ap (λ t. cond t (ltb q l.n) false) (less (length l.entries) l.n h) ∙ less q l.n s
  in_fit false q s h = absurd (omega arith)

  pub has_place : {E : Type 0} (r : Result (Option ℕ) E) → Answers (size_in l have) (length (entries_in l have)) r → HasPlace l r
  has_place (Err f) p = tt
  has_place (Ok None) p = tt
  has_place (Ok (Some q)) p = in_fit (fits l have) q p.0 p.1

-- the held lines after a verdict, as the ledger then shows them
module _ {V : Type 0} (l : Listed) (m m' : List V) (same : length m' ≡ length m) (label : ℕ) where
  still : held_lines (size_in l (length m)) m' 0 (entries_in l (length m)) ≡ held_in l m'
  unfolding held_in
  still = ap (λ k. held_lines (size_in l k) m' 0 (entries_in l k)) (sym same)

  with_fit : (b : Bool) → fits l (length m) ≡ b → (q : ℕ) → 0 < cond b l.n 0 → held_lines (cond b l.n 0) m' 0 (cond b l.entries [] ++ record { label = label; subject = q } ∷ []) ≡ held_in (holding label q l) m'
  unfolding held_in
  with_fit true e q p =
      sym (ap (λ b. held_lines (cond b l.n 0) m' 0 (cond b (l.entries ++ record { label = label; subject = q } ∷ []) [])) (ap (leb (needed l.n)) same ∙ e))
  with_fit false e q p = absurd (omega arith)

  pub entered_shows : (v : Verdict V) → Answers (size_in l (length m)) (length (entries_in l (length m))) (course v) → held_in (entered v label l) m' ≡ held_lines (size_in l (length m)) m' 0 (entries_after v label (entries_in l (length m)))
  entered_shows (refused f) p = sym still
  entered_shows follows p = sym still
  entered_shows (clash rs) p = sym still
  entered_shows (taken q hs) p = sym (with_fit (fits l (length m)) refl q (let b = p.0 in omega arith))

-- ---- the verdict, by the size and the entries that were found
module _ {V : Type 0} (K : Kind V) (l : Listed) (m : List V) (line : List ℤ) (label room n : ℕ) (es : List Entry) (size : n ≡ size_in l (length m)) (entries : es ≡ entries_in l (length m)) where
  pub held_is : held_lines n m 0 es ≡ held_in l m
  unfolding held_in
  held_is = ap₂ (λ k xs. held_lines k m 0 xs) size entries

  refusal_is : refusal (size_in l (length m)) (length (held_in l m)) line label room ≡ refusal n (length es) line label room
  refusal_is = ap₂ (λ k h. refusal k h line label room) (sym size) (ap length (sym held_is) ∙ held_length n m 0 es)

  abbrev pub verdict : Verdict V
  verdict = stating K (size_in l (length m)) (held_in l m) line label room

  pub verdict_refused : (f : SheetFault) → refusal n (length es) line label room ≡ Err f → verdict ≡ refused f
  verdict_refused f e = ap (λ r. unless r (steps K (size_in l (length m)) (held_in l m) label (map (value_of K) line))) (refusal_is ∙ e)

  pub verdict_steps : refusal n (length es) line label room ≡ Ok tt → verdict ≡ steps K n (held_lines n m 0 es) label (map (value_of K) line)
  verdict_steps e =
      ap (λ r. unless r (steps K (size_in l (length m)) (held_in l m) label (map (value_of K) line))) (refusal_is ∙ e)
      ∙ ap₂ (λ k hs. steps K k hs label (map (value_of K) line)) (sym size) (sym held_is)
