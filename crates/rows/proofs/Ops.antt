-- What the operations on a row do in a column.
use Rattle.std.proofs.Common.{◌≡◌, ℕ, zero, suc, ◌<◌, ◌≤◌, Bool, true, false, not, cond, ltb, List, length, get_or, ℤ, pos, Option, None, Some, Ok, sym, refl, ap, ◌∙◌, arith}
use native.Mathlib.Decide.{dec_le}
use Rattle.std.specs.Bool.{then_some}
use Rattle.std.specs.Option.{MatchOption, unwrap_or}
use Rattle.std.proofs.lemmas.Bool.{lt-ltb, le-ltb}
use Rattle.std.proofs.lemmas.List.{get_or_read}
use Rattle.exact.specs.Fraction.{Fraction}
use Rattle.exact.specs.Kind.{Kind, Lawful}
use Rattle.exact.specs.Answers.{whole_of, less_of}
use Rattle.exact.proofs.Held.{whole_always, less_held, over_held}
use Rattle.rows.specs.Row.{at, done, less_swept, whole_op, whole_row, less_op, over_op, less_row, over_row, cleared, clear_swept, highest}
use Rattle.rows.specs.Row.{Leaves}
use Rattle.rows.proofs.Sweeps.{always}
use Rattle.rows.proofs.Sweeps.{leaves_swept, swept_length}

module _ {V : Type 0} (K : Kind V) where
  pub whole_inside : (numbers : List ℤ) (u : ℕ) (x : V) → u < length numbers → whole_op K numbers u x ≡ whole_of K (get_or numbers u (pos 0))
  unfolding whole_op
  whole_inside numbers u x h = ap (λ b. cond b (whole_of K (get_or numbers u (pos 0))) (Ok x)) (lt-ltb u (length numbers) h)

  pub whole_past : (numbers : List ℤ) (u : ℕ) (x : V) → length numbers ≤ u → whole_op K numbers u x ≡ Ok x
  unfolding whole_op
  whole_past numbers u x h = ap (λ b. cond b (whole_of K (get_or numbers u (pos 0))) (Ok x)) (le-ltb u (length numbers) h)

  pub less_inside : (f : V) (r : List V) (u : ℕ) (x y : V) → u < length r → y ≡ get_or r u K.nil → less_op K f r u x ≡ less_of K x f y
  unfolding less_op
  less_inside f r u x y h e = ap (λ b. cond b (less_of K x f (at K r u)) (Ok x)) (lt-ltb u (length r) h) ∙ ap (less_of K x f) (sym e)

  pub less_past : (f : V) (r : List V) (u : ℕ) (x : V) → length r ≤ u → less_op K f r u x ≡ Ok x
  unfolding less_op
  less_past f r u x h = ap (λ b. cond b (less_of K x f (at K r u)) (Ok x)) (le-ltb u (length r) h)

  -- the number that was read from a column
  pub at_is : (w : List V) (s : ℕ) (x : V) → s < length w → x ≡ get_or w s x → at K w s ≡ x
  at_is w s x h e = sym (get_or_read w s x h e K.nil)

  -- what a filter by a test for 0 leaves of the number in a column
  pub nonzero_is : K.is_zero K.nil ≡ true → (w : List V) (s : ℕ) (o r : Option V) {Q : V → Bool → Type 0} → unwrap_or o K.nil ≡ at K w s → MatchOption o (r ≡ None) (λ x. (b : Bool) × Q x b × (r ≡ then_some b x))
      → ((x : V) (b : Bool) → Q x b → b ≡ not (K.is_zero x)) → r ≡ cond (K.is_zero (at K w s)) None (Some (at K w s))
  nonzero_is z w s o r {Q} e m k = go o (sym e) m
    where
      turned : (b : Bool) (x : V) → then_some (not b) x ≡ cond b None (Some x)
      turned true x = refl
      turned false x = refl

      go : (o : Option V) → at K w s ≡ unwrap_or o K.nil → MatchOption o (r ≡ None) (λ x. (b : Bool) × Q x b × (r ≡ then_some b x)) → r ≡ cond (K.is_zero (at K w s)) None (Some (at K w s))
      go None d m = m ∙ sym (ap (λ b. cond b None (Some (at K w s))) (ap K.is_zero d ∙ z))
      go (Some x) d m = m.2 ∙ ap (λ b. then_some b x) (k x m.0 m.1) ∙ turned (K.is_zero x) x ∙ ap (λ y. cond (K.is_zero y) None (Some y)) (sym d)

  -- a column that is 0 already, and one that is not
  pub cleared_is : (s : ℕ) (w r : List V) (o : Option V) → o ≡ cond (K.is_zero (at K w s)) None (Some (at K w s)) →
      MatchOption o ((cleared K s w r ≡ Ok w) × (clear_swept K s w r ≡ w)) (λ f. (cleared K s w r ≡ less_row K f w r) × (clear_swept K s w r ≡ less_swept K f w r))
  unfolding cleared clear_swept
  cleared_is s w r o e = go (K.is_zero (at K w s)) o e
    where
      go : (b : Bool) (o : Option V) → o ≡ cond b None (Some (at K w s)) →
          MatchOption o ((cond b (Ok w) (less_row K (at K w s) w r) ≡ Ok w) × (cond b w (less_swept K (at K w s) w r) ≡ w)) (λ f. (cond b (Ok w) (less_row K (at K w s) w r) ≡ less_row K f w r) × (cond b w (less_swept K (at K w s) w r) ≡ less_swept K f w r))
      go true None e = (refl, refl)
      go true (Some f) e = cc
      go false None e = cc
      go false (Some f) e = let d : at K w s ≡ f = cc in (ap (λ x. less_row K x w r) d, ap (λ x. less_swept K x w r) d)

  highest_past : (w : List V) (m : ℕ) → ((k : ℕ) → k < m → K.is_zero (at K w k) ≡ true) → highest K m w ≡ None
  highest_past w zero z = refl
  highest_past w (suc u) z = ap (λ b. cond b (highest K u w) (Some u)) (z u (omega arith)) ∙ highest_past w u (λ k l. z k (omega arith))

  highest_here : (w : List V) (m i : ℕ) → i < m → K.is_zero (at K w i) ≡ false → ((k : ℕ) → i < k → k < m → K.is_zero (at K w k) ≡ true) → highest K m w ≡ Some i
  highest_here w zero i h n z = absurd (omega arith)
  highest_here w (suc u) i h n z = go (dec_le u i) (λ l. highest_here w u i l n (λ k a b. z k a (omega arith)))
    where
      go : Dec (u ≤ i) → (i < u → highest K u w ≡ Some i) → highest K (suc u) w ≡ Some i
      go (yes l) below = let e : u ≡ i = omega arith in ap (λ k. highest K (suc k) w) e ∙ ap (λ b. cond b (highest K i w) (Some i)) n
      go (no l) below = ap (λ b. cond b (highest K u w) (Some u)) (z u (omega arith) (omega arith)) ∙ below (omega arith)

  -- the last place that passes
  pub highest_is : (w : List V) (r : Option ℕ) → (r ≡ None → (k : ℕ) → k < length w → K.is_zero (at K w k) ≡ true)
      → ((i : ℕ) → r ≡ Some i → (i < length w) × (K.is_zero (at K w i) ≡ false) × ((k : ℕ) → i < k → k < length w → K.is_zero (at K w k) ≡ true))
      → r ≡ highest K (length w) w
  highest_is w None none some = sym (highest_past w (length w) (none refl))
  highest_is w (Some i) none some = let s = some i refl in sym (highest_here w (length w) i s.0 s.1 s.2)

  -- what clearing a column leaves
  pub clear_length : (s : ℕ) (w r : List V) → length (clear_swept K s w r) ≡ length w
  unfolding clear_swept less_swept
  clear_length s w r = go (K.is_zero (at K w s))
    where
      go : (b : Bool) → length (cond b w (less_swept K (at K w s) w r)) ≡ length w
      go true = refl
      go false = swept_length (less_op K (at K w s) r) 0 w

  pub clear_leaves : (s : ℕ) (w r : List V) → Leaves (cleared K s w r) (clear_swept K s w r)
  unfolding clear_swept less_swept cleared less_row
  clear_leaves s w r = go (K.is_zero (at K w s))
    where
      go : (b : Bool) → Leaves (cond b (Ok w) (less_row K (at K w s) w r)) (cond b w (less_swept K (at K w s) w r))
      go true = refl
      go false = leaves_swept (less_op K (at K w s) r) 0 w

module _ {V : Type 0} {K : Kind V} {admits : Fraction → Type 0} {alike : Fraction → Fraction → Type 0} {complete : Bool} (laws : Lawful K admits alike complete) (all : complete ≡ true) where
  pub whole_row_always : (numbers : List ℤ) (w : List V) → done (whole_row K numbers w) ≡ Ok tt
  unfolding whole_row whole_op
  whole_row_always numbers w = always (whole_op K numbers) each 0 w
    where
      each : (u : ℕ) (x : V) → (v : V) × (whole_op K numbers u x ≡ Ok v)
      each u x = go (ltb u (length numbers))
        where
          go : (b : Bool) → (v : V) × (cond b (whole_of K (get_or numbers u (pos 0))) (Ok x) ≡ Ok v)
          go true = whole_always laws all (get_or numbers u (pos 0))
          go false = (x, refl)

  pub less_always : (f : V) (w r : List V) → done (less_row K f w r) ≡ Ok tt
  unfolding less_row less_op
  less_always f w r = always (less_op K f r) each 0 w
    where
      each : (u : ℕ) (x : V) → (v : V) × (less_op K f r u x ≡ Ok v)
      each u x = go (ltb u (length r))
        where
          go : (b : Bool) → (v : V) × (cond b (less_of K x f (at K r u)) (Ok x) ≡ Ok v)
          go true = less_held laws all x f (at K r u)
          go false = (x, refl)

  pub over_always : (f : V) → K.is_zero f ≡ false → (w : List V) → done (over_row K f w) ≡ Ok tt
  unfolding over_row over_op
  over_always f e w = always (over_op K f) each 0 w
    where
      each : (u : ℕ) (x : V) → (v : V) × (over_op K f u x ≡ Ok v)
      each u x = over_held laws all x f e

  pub cleared_always : (s : ℕ) (w r : List V) → done (cleared K s w r) ≡ Ok tt
  unfolding cleared
  cleared_always s w r = go (K.is_zero (at K w s))
    where
      go : (b : Bool) → done (cond b (Ok w) (less_row K (at K w s) w r)) ≡ Ok tt
      go true = refl
      go false = less_always (at K w s) w r
