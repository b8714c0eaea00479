-- The terms before one, as a part of the list.
use Rattle.std.proofs.Common.{◌≡◌, ℕ, ◌+◌, ◌<◌, ◌≤◌, Bool, true, false, List, length, take, refl, sym, ap, ◌∙◌, subst, ltb, ltb-true, ltb-false, arith}
use Rattle.std.proofs.lemmas.List.{length-take-le, get_or-take}
use Rattle.reading.specs.declared.term.Term.{Term}
use Rattle.reading.specs.Terms.{none}
use Rattle.placing.specs.Terms.{StoodBefore, Good}

module _ (ts : List Term) (k q : ℕ) (h : k ≤ length ts) where
  pub stood : StoodBefore (take k ts) (length (take k ts)) q → StoodBefore ts k q
  stood (j, l, e) =
      let m : j < k = omega (arith, l, length-take-le k ts h) in
      (j, m, ap (λ t. t.number) (sym (get_or-take k ts j none m)) ∙ e)

  pub parted : StoodBefore ts k q → StoodBefore (take k ts) (length (take k ts)) q
  parted (j, m, e) = (j, omega (arith, m, length-take-le k ts h), ap (λ t. t.number) (get_or-take k ts j none m) ∙ e)

-- the terms up to one more
pub one_more : (ts : List Term) (n k : ℕ) → ((j : ℕ) → j < k → Good ts n j) → Good ts n k → (j : ℕ) → j < k + 1 → Good ts n j
one_more ts n k f g j l = go (ltb j k) refl
  where
    go : (b : Bool) → b ≡ ltb j k → Good ts n j
    go true e = f j (ltb-true j k (sym e))
    go false e =
        let m : k ≤ j = ltb-false j k (sym e) in
        let q : k ≡ j = omega arith in
        subst (Good ts n) q g
