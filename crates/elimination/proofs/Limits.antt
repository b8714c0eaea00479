-- The first number of a line that is outside its limit.
use Rattle.std.proofs.Common.{◌≡◌, ℕ, zero, suc, ◌+◌, ◌<◌, ◌≤◌, cond, List, [], ◌∷◌, length, get_or, ℤ, pos, nat_abs, Some, None, Option, option_map, refl, ap, ◌∙◌, subst, arith}
use Rattle.elimination.specs.Refusals.{limit, over_limit}
use Rattle.elimination.proofs.Tests.{at_most, above}

module _ (n : ℕ) where
  -- the number at a place is within its limit, where the first has the column c
  abbrev pub Small : (c : ℕ) → List ℤ → (u : ℕ) → Type 0
  Small c line u = nat_abs (get_or line u (pos 0)) ≤ limit n (c + u)

  first : (c : ℕ) (a : ℤ) (more : List ℤ) → Small c (a ∷ more) 0 → nat_abs a ≤ limit n c
  first c a more h = let e : c + 0 ≡ c = omega arith in subst (λ i. nat_abs a ≤ limit n i) e h

  later : (c : ℕ) (a : ℤ) (more : List ℤ) (u : ℕ) → Small c (a ∷ more) (suc u) → Small (c + 1) more u
  later c a more u h = let e : c + suc u ≡ c + 1 + u = omega arith in subst (λ i. nat_abs (get_or more u (pos 0)) ≤ limit n i) e h

  goes_on : (c : ℕ) (a : ℤ) (more : List ℤ) → nat_abs a ≤ limit n c → over_limit n c (a ∷ more) ≡ over_limit n (c + 1) more
  goes_on c a more h = ap (λ b. cond b (over_limit n (c + 1) more) (Some (c + 1))) (at_most (nat_abs a) (limit n c) h)

  none_over : (c : ℕ) (line : List ℤ) → ((u : ℕ) → u < length line → Small c line u) → over_limit n c line ≡ None
  none_over c [] h = refl
  none_over c (a ∷ more) h = goes_on c a more (first c a more (h 0 (omega arith))) ∙ none_over (c + 1) more (λ u b. later c a more u (h (suc u) (omega arith)))

  first_over : (c : ℕ) (line : List ℤ) (k : ℕ) → k < length line → limit n (c + k) < nat_abs (get_or line k (pos 0)) → ((u : ℕ) → u < k → Small c line u) → over_limit n c line ≡ Some (c + k + 1)
  first_over c [] k b over h = absurd (omega arith)
  first_over c (a ∷ more) zero b over h =
      let e : c + 0 ≡ c = omega arith in
      ap (λ t. cond t (over_limit n (c + 1) more) (Some (c + 1))) (above (nat_abs a) (limit n c) (subst (λ i. limit n i < nat_abs a) e over)) ∙ ap Some (omega arith)
  first_over c (a ∷ more) (suc k) b over h =
      let e : c + suc k ≡ c + 1 + k = omega arith in
      goes_on c a more (first c a more (h 0 (omega arith)))
      ∙ first_over (c + 1) more k (omega arith) (subst (λ i. limit n i < nat_abs (get_or more k (pos 0))) e over) (λ u l. later c a more u (h (suc u) (omega arith)))
      ∙ ap Some (omega arith)

  start : (line : List ℤ) (u : ℕ) → nat_abs (get_or line u (pos 0)) ≤ limit n u → Small 0 line u
  start line u h = let e : u ≡ 0 + u = omega arith in subst (λ i. nat_abs (get_or line u (pos 0)) ≤ limit n i) e h

  -- by the place that was found
  pub first_is : (line : List ℤ) (o : Option ℕ)
      → (o ≡ None → (u : ℕ) → u < length line → nat_abs (get_or line u (pos 0)) ≤ limit n u)
      → ((k : ℕ) → o ≡ Some k → (k < length line) × (limit n k < nat_abs (get_or line k (pos 0))) × ((u : ℕ) → u < k → nat_abs (get_or line u (pos 0)) ≤ limit n u))
      → over_limit n 0 line ≡ option_map (λ i. i + 1) o
  first_is line None none some = none_over 0 line (λ u b. start line u (none refl u b))
  first_is line (Some k) none some =
      let f = some k refl in
      let e : k ≡ 0 + k = omega arith in
      first_over 0 line k f.0 (subst (λ i. limit n i < nat_abs (get_or line k (pos 0))) e f.1) (λ u b. start line u (f.2 u b)) ∙ ap Some (omega arith)
