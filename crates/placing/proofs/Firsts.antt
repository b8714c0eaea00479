-- The first term of a set point.
use Rattle.std.proofs.Common.{◌≡◌, ℕ, Bool, true, false, cond, List, [], ◌∷◌, pos, Some, Option, IfSome, All, refl, eqb}
use Rattle.std.proofs.lemmas.List.Elements.{All-head, All-tail}
use Rattle.std.specs.List.{find}
use Rattle.std.specs.Option.{option_map_or, option_and_then}
use Rattle.reading.specs.declared.term.Term.{Term}
use Rattle.reading.specs.Terms.{Fair}
use Rattle.placing.specs.Columns.{start}
use Rattle.placing.specs.Numbers.{with_sign, coefficient}

abbrev pub first : List Term → ℕ → Option Term
first ts q = find (λ t. eqb t.number q) ts

pub coefficient_first : (ts : List Term) (q : ℕ) → coefficient ts q ≡ option_map_or (λ t. with_sign t.negative t.coefficient) (first ts q) (pos 0)
coefficient_first [] q = refl
coefficient_first (t ∷ ts) q = go (eqb t.number q) (coefficient_first ts q)
  where
    go : (b : Bool) → coefficient ts q ≡ option_map_or (λ t. with_sign t.negative t.coefficient) (first ts q) (pos 0) →
        cond b (with_sign t.negative t.coefficient) (coefficient ts q) ≡ option_map_or (λ t. with_sign t.negative t.coefficient) (cond b (Some t) (first ts q)) (pos 0)
    go true e = refl
    go false e = e

pub start_first : (ts : List Term) (q : ℕ) → start ts q ≡ option_and_then (λ t. t.start) (first ts q)
start_first [] q = refl
start_first (t ∷ ts) q = go (eqb t.number q) (start_first ts q)
  where
    go : (b : Bool) → start ts q ≡ option_and_then (λ t. t.start) (first ts q) → cond b t.start (start ts q) ≡ option_and_then (λ t. t.start) (cond b (Some t) (first ts q))
    go true e = refl
    go false e = e

-- the first of fair terms is fair
pub first_fair : (ts : List Term) (q : ℕ) → All Fair ts → IfSome (first ts q) Fair
first_fair [] q h = tt
first_fair (t ∷ ts) q h = go (eqb t.number q) (first_fair ts q (All-tail Fair t ts h))
  where
    go : (b : Bool) → IfSome (first ts q) Fair → IfSome (cond b (Some t) (first ts q)) Fair
    go true e = All-head Fair t ts h
    go false e = e
