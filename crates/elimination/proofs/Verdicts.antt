-- What the steps come to, one after the other.
use Rattle.std.proofs.Common.{◌≡◌, ℕ, zero, suc, ◌<◌, Bool, true, false, cond, List, [], ◌∷◌, map, length, get_or, set, ℤ, pos, None, sym, refl, ap, ◌∙◌, subst, arith}
use Rattle.std.proofs.Common.{◌+◌, ◌++◌, Ok, Err, Result}
use Rattle.exact.specs.Kind.{Kind}
use Rattle.exact.specs.Answers.{value_of}
use Rattle.ledger.specs.declared.entry.Entry.{Entry}
use Rattle.ledger.specs.Listed.{Listed}
use Rattle.elimination.specs.declared.fault.StepFault.{StepFault}
use Rattle.elimination.specs.declared.fault.SheetFault.TheVariants.{Numbers}
use Rattle.elimination.specs.declared.record.Record.{Record}
use Rattle.elimination.specs.Held.{HeldLine, needed, used, held_lines}
use Rattle.elimination.specs.Held.{row_at, line_at, held_line}
use Rattle.elimination.specs.Stating.{over_written, entered, held_after, records_after, entries_after}
use Rattle.elimination.specs.Steps.{Verdict, refused, follows, clash, one, judged, steps, evidence}
use Rattle.elimination.specs.Steps.{taken, added}
use Rattle.rows.specs.Row.{at}
use Rattle.elimination.proofs.Frames.{held_more}

pub used_all : (n : ℕ) → 0 < n → used n ≡ needed n
used_all zero b = absurd (omega arith)
used_all (suc n) b = refl

-- a verdict that leaves the held lines and the records
module _ {V : Type 0} (v : Verdict V) (f : StepFault) (e : v ≡ refused (Numbers f)) where
  pub refused_held : (n label : ℕ) (es : List Entry) (m : List V) (hs : List (HeldLine V)) → held_lines n m 0 es ≡ hs → held_lines n m 0 (entries_after v label es) ≡ held_after v hs
  refused_held n label es m hs h = subst (λ x. held_lines n m 0 (entries_after x label es) ≡ held_after x hs) (sym e) h

  pub refused_records : (old : List (Record V)) → old ≡ records_after v old
  refused_records old = sym (ap (λ x. records_after x old) e)

-- a line that is spent leaves the held lines
pub spent_held : {V : Type 0} (K : Kind V) (n : ℕ) (hs gs : List (HeldLine V)) (label : ℕ) (line w : List V) (es : List Entry) (m : List V) → held_lines n m 0 es ≡ gs → held_lines n m 0 (entries_after (judged K n hs label line w None) label es) ≡ held_after (judged K n hs label line w None) gs
spent_held K n hs gs label line w es m h = go (K.is_zero (at K w n))
  where
    go : (b : Bool) → held_lines n m 0 (entries_after (cond b follows (clash (evidence K n hs label w))) label es) ≡ held_after (cond b follows (clash (evidence K n hs label w))) gs
    go true = h
    go false = h

-- a line that is held
module _ {V : Type 0} (K : Kind V) (label : ℕ) (line : List V) (q : ℕ) (r : Result (List V × List (HeldLine V)) StepFault) where
  pub added_stopped : (f : StepFault) → r ≡ Err f → added K label line q r ≡ refused (Numbers f)
  added_stopped f e = ap (added K label line q) e

  pub added_made : (rows : List V × List (HeldLine V)) → r ≡ Ok rows → added K label line q r ≡ taken q (rows.1 ++ record { label = label; subject = q; line = line; row = rows.0 } ∷ [])
  added_made rows e = ap (added K label line q) e

  -- the rows are held, and the line is written after the others
  pub added_held : (rows : List V × List (HeldLine V)) → r ≡ Ok rows → (n : ℕ) (es : List Entry) (m m' : List V) (hs : List (HeldLine V))
      → (held_lines n m' 0 es ≡ rows.1) × (row_at n m' (length es) ≡ rows.0) × (line_at n m' (length es) ≡ line)
      → held_lines n m' 0 (entries_after (added K label line q r) label es) ≡ held_after (added K label line q r) hs
  unfolding held_line
  added_held rows e n es m m' hs k =
      subst (λ x. held_lines n m' 0 (entries_after x label es) ≡ held_after x hs) (sym (added_made rows e))
      (held_more n m' 0 es (record { label = label; subject = q })
      ∙ ap (λ l. l ++ held_line n m' (0 + length es) (record { label = label; subject = q }) ∷ []) k.0
      ∙ ap (λ x. rows.1 ++ x ∷ []) (ap (λ i. held_line n m' i (record { label = label; subject = q })) (omega arith)
      ∙ ap (λ l. record { label = label; subject = q; line = l; row = row_at n m' (length es) }) k.2 ∙ ap (λ w. record { label = label; subject = q; line = line; row = w }) k.1))

-- ---- a sheet with no set point
pub bare_steps : {V : Type 0} (K : Kind V) (label : ℕ) (line : List ℤ) → length line ≡ 1 → steps K 0 [] label (map (value_of K) line) ≡ cond (K.is_zero (value_of K (get_or line 0 (pos 0)))) follows (clash (record { place = 1; label = label; multiplier = one K } ∷ []))
unfolding steps
bare_steps K label [] e = absurd (omega arith)
bare_steps K label (z ∷ []) e = refl
bare_steps K label (z ∷ y ∷ more) e = absurd (omega arith)

pub first_written : {X : Type 0} (old : List X) (x : X) → 0 < length old → set old 0 x ≡ over_written (x ∷ []) old
first_written [] x h = absurd (omega arith)
first_written (y ∷ old) x h = refl

-- a line on it is never held
pub bare_unmoved : {V : Type 0} (K : Kind V) (label : ℕ) (line : List ℤ) → length line ≡ 1 → (l : Listed) (hs : List (HeldLine V)) → (entered (steps K 0 [] label (map (value_of K) line)) label l ≡ l) × (held_after (steps K 0 [] label (map (value_of K) line)) hs ≡ hs)
bare_unmoved K label line e l hs =
    let s = bare_steps K label line e in
    let b = K.is_zero (value_of K (get_or line 0 (pos 0))) in
    (ap (λ v. entered v label l) s ∙ (go b).0, ap (λ v. held_after v hs) s ∙ (go b).1)
  where
    go : (b : Bool) → (entered (cond b follows (clash (record { place = 1; label = label; multiplier = one K } ∷ []))) label l ≡ l) × (held_after (cond b follows (clash (record { place = 1; label = label; multiplier = one K } ∷ []))) hs ≡ hs)
    go true = (refl, refl)
    go false = (refl, refl)
