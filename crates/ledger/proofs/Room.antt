-- One more wait among waits for different set points from 1 to 48.
use Rattle.std.proofs.Common.{◌≡◌, ℕ, ◌<◌, ◌≤◌, ◌≢◌, true, eqb, List, ◌∷◌, map, length, All, AllPairs, ◌∙◌, sym, subst, arith}
use Rattle.std.specs.List.{IsDistinct, list_any}
use Rattle.std.proofs.lemmas.Bool.{eqb-true}
use Rattle.std.proofs.lemmas.Bool.Decides.{Decides-eqb}
use Rattle.std.proofs.lemmas.List.{length-map, get_or-map}
use Rattle.std.proofs.lemmas.List.Elements.{All-cons, All-map}
use Rattle.std.proofs.lemmas.List.Folds.{Any-from_list_any}
use Rattle.std.proofs.lemmas.List.Kept.{AllPairs-cons}
use Rattle.std.proofs.lemmas.Map.Made.{IsDistinct-from_AllPairs}
use Rattle.std.proofs.lemmas.Map.Steps.{length-le_from_distinct_below}
use Rattle.ledger.specs.declared.wait.Wait.{Wait}
use Rattle.ledger.specs.Apart.{Points, Apart}
use Rattle.ledger.proofs.Standing.{point}

module _ (ws : List Wait) (q : ℕ) (points : Points ws) (apart : Apart ws) (low : 1 ≤ q) (high : q ≤ 48) (new : All (λ w. w.set_point ≡ q → ⊥) ws) where
  -- with 0 and q they are different numbers below 49
  pub room : length ws < 48
  room = let e = length-map ws point in let l = length-le_from_distinct_below all 49 distinct below in omega arith
    where
      all : List ℕ
      all = 0 ∷ q ∷ map point ws

      other : All (λ p. q ≢ p) (map point ws)
      other = All-map (λ p. q ≢ p) point ws (λ k d h e. new k d h (sym e))

      above : All (λ p. 0 ≢ p) (map point ws)
      above = All-map (λ p. 0 ≢ p) point ws (λ k d h. let p = points k d h in omega arith)

      pairs : AllPairs (λ x y. x ≢ y) (map point ws)
      pairs i j d h b e =
          let n : length (map point ws) ≡ length ws = length-map ws point in
          let none : Wait = record { set_point = 0 } in
          let far : j < length ws = omega arith in
          let near : i < length ws = omega arith in
          apart i j none h far (sym (get_or-map point ws i none d near) ∙ e ∙ get_or-map point ws j none d far)

      distinct : IsDistinct eqb all
      distinct = IsDistinct-from_AllPairs Decides-eqb all
          (AllPairs-cons (λ x y. x ≢ y) 0 (q ∷ map point ws) (All-cons (λ p. 0 ≢ p) q (map point ws) (omega arith) above)
          (AllPairs-cons (λ x y. x ≢ y) q (map point ws) other pairs))

      few : All (λ p. p < 49) all
      few = All-cons (λ p. p < 49) 0 (q ∷ map point ws) (omega arith)
          (All-cons (λ p. p < 49) q (map point ws) (omega arith)
          (All-map (λ p. p < 49) point ws (λ k d h. let p = points k d h in omega arith)))

      below : (r : ℕ) → list_any (eqb r) all ≡ true → r < 49
      below r e =
          let a = Any-from_list_any (eqb r) all e in
          let at : a.1 < 49 = subst (λ p. p < 49) a.3 (few a.0 a.1 a.2) in
          subst (λ p. p < 49) (sym (eqb-true r a.1 a.4)) at
