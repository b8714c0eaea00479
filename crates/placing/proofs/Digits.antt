-- A number without a column is at most 1 either way.
use Rattle.std.proofs.Common.{◌≡◌, ℕ, zero, suc, ◌+◌, ◌-◌, ◌<◌, ◌≤◌, Bool, true, false, cond, eqb, ltb, List, [], ◌∷◌, ◌++◌, length, get_or, ℤ, pos, nat_abs, Some, None, Option, MatchOption, All, sym, refl, ap, ◌∙◌, subst, add-zero, arith, length-append, ltb-false, ltb-true, ne_eqb, eq-eqb}
use Rattle.std.proofs.lemmas.List.{get_or_past}
use Rattle.std.specs.Option.{option_eq, option_map_or, option_and_then, SomeIff, IfSome}
use Rattle.bounded.specs.Items.{items}
use Rattle.reading.specs.declared.term.Term.{Term}
use Rattle.reading.specs.declared.line.Line.{Line}
use Rattle.reading.specs.Reading.{meaning_of}
use Rattle.reading.specs.Terms.{Fair}
use Rattle.placing.specs.Columns.{start, column, number_at}
use Rattle.placing.specs.Numbers.{with_sign, coefficient, coefficients}
use Rattle.placing.proofs.Filling.{length_coefficients}
use Rattle.placing.proofs.Firsts.{first, coefficient_first, start_first, first_fair}

one_by : (s : Bool) → nat_abs (with_sign s 1) ≤ 1
one_by true = omega arith
one_by false = omega arith

one : (s : Bool) (c : ℕ) (o : Option ℕ) → o ≡ None → MatchOption o (c ≡ 1) (λ k. 1 ≤ k) → nat_abs (with_sign s c) ≤ 1
one s c None e h = subst (λ n. nat_abs (with_sign s n) ≤ 1) (sym h) (one_by s)
one s c (Some k) e h = cc

-- a term without a digit has the coefficient 1, and no term 0
small : (o : Option Term) → IfSome o Fair → option_and_then (λ t. t.start) o ≡ None → nat_abs (option_map_or (λ t. with_sign t.negative t.coefficient) o (pos 0)) ≤ 1
small None h e = omega arith
small (Some t) h e = one t.negative t.coefficient t.start e h.1

-- columns count from 1
one_on : (c : ℕ) (o : Option ℕ) → MatchOption o (c ≡ 1) (λ k. 1 ≤ k) → IfSome o (λ k. 1 ≤ k)
one_on c None h = tt
one_on c (Some k) h = h

from_one : (o : Option Term) → IfSome o Fair → IfSome (option_and_then (λ t. t.start) o) (λ c. 1 ≤ c)
from_one None h = tt
from_one (Some t) h = one_on t.coefficient t.start h.1

-- the coefficients one by one
nth : (ts : List Term) (q n i : ℕ) (zs : List ℤ) → i < n → get_or (coefficients ts q n ++ zs) i (pos 0) ≡ coefficient ts (q + i)
nth ts q zero i zs h = absurd (omega arith)
nth ts q (suc n) zero zs h = ap (coefficient ts) (sym (add-zero q))
nth ts q (suc n) (suc i) zs h =
    let e : q + 1 + i ≡ q + suc i = omega arith in
    nth ts (q + 1) n i zs (omega arith) ∙ ap (coefficient ts) e

module _ (ts : List Term) (n p : ℕ) (z : ℤ) (s : nat_abs (coefficient ts p) ≤ 1) (h : 1 ≤ p) (ne : p ≡ n + 1 → ⊥) where
  beside : (b : Bool) → b ≡ ltb n p → nat_abs (get_or (coefficients ts 1 n ++ (z ∷ [])) (p - 1) (pos 0)) ≤ 1
  beside true e =
      let l : n < p = ltb-true n p (sym e) in
      let o : length (coefficients ts 1 n ++ (z ∷ [])) ≤ p - 1 = omega (arith, length-append (coefficients ts 1 n) (z ∷ []), length_coefficients ts 1 n, apart) in
      subst (λ v. nat_abs v ≤ 1) (sym (get_or_past (coefficients ts 1 n ++ (z ∷ [])) (p - 1) (pos 0) o)) (omega arith)
    where
      apart : n + 1 < p
      apart = let l : n < p = ltb-true n p (sym e) in omega (arith, ne)
  beside false e =
      let l : p ≤ n = ltb-false n p (sym e) in
      let back : 1 + (p - 1) ≡ p = omega arith in
      subst (λ v. nat_abs v ≤ 1) (sym (nth ts 1 n (p - 1) (z ∷ []) (omega arith) ∙ ap (coefficient ts) back)) s

-- any position but the constant's
pub apart : (o : Option ℕ) (p n : ℕ) → SomeIff o (1 ≤ p) (p - 1) → false ≡ option_eq eqb o (Some n) → p ≡ n + 1 → ⊥
apart None p n h e q = h (omega arith)
apart (Some k) p n h e q =
    let i : k ≡ n = omega (arith, h.1) in
    let t : eqb k n ≡ true = eq-eqb k n i in
    cc

module _ (l : Line) (n p : ℕ) (ts : List Term) (o : Option Term) (ne : p ≡ n + 1 → ⊥) (e : ts ≡ items l.terms) (f : o ≡ first ts p) where
  pub beyond : option_and_then (λ t. t.start) o ≡ column (meaning_of l) n p
  beyond = ap (option_and_then (λ t. t.start)) f ∙ sym (start_first ts p) ∙ ap (λ us. start us p) e ∙ sym (ap (λ b. cond b (Some l.start) (start (items l.terms) p)) (ne_eqb p (n + 1) ne))

  found : IfSome o Fair
  found = subst (λ v. IfSome v Fair) (sym f) (first_fair ts p (subst (All Fair) (sym e) l.fair))

  pub counted : IfSome (option_and_then (λ t. t.start) o) (λ c. 1 ≤ c)
  counted = from_one o found

  pub digit : 1 ≤ p → option_and_then (λ t. t.start) o ≡ None → nat_abs (number_at (meaning_of l) n p) ≤ 1
  digit h s =
      let c : option_map_or (λ t. with_sign t.negative t.coefficient) o (pos 0) ≡ coefficient (items l.terms) p =
      ap (λ v. option_map_or (λ t. with_sign t.negative t.coefficient) v (pos 0)) f ∙ sym (coefficient_first ts p) ∙ ap (λ us. coefficient us p) e in
      beside (items l.terms) n p (with_sign l.negative l.constant) (subst (λ v. nat_abs v ≤ 1) c (small o found s)) h ne (ltb n p) refl
