-- What is left of the items where those after one were moved down over it.
use Rattle.std.proofs.Common.{◌≡◌, ℕ, suc, ◌+◌, ◌-◌, ◌<◌, ◌≤◌, List, ◌++◌, length, take, drop, remove, ap, ap₂, sym, ◌∙◌, arith, take_at, take-take, length-append, length-take-le, length-drop}
use Rattle.std.specs.List.{copy_within}
use Rattle.std.proofs.lemmas.List.{drop-take}

pub taken : {X : Type 0} (ps : List X) (n i : ℕ) → i < n → n ≤ length ps → take (n - 1) (copy_within ps (i + 1) n i) ≡ remove (take n ps) i
taken {X = X} ps n i before within =
    let run : ℕ = n - (i + 1) in
    let front : List X = take i ps in
    let rest : List X = take run (drop (i + 1) ps) in
    let long : length (front ++ rest) ≡ n - 1 = omega (arith, length-append front rest, length-take-le i ps (omega arith), length-take-le run (drop (i + 1) ps) (omega (arith, length-drop (i + 1) ps))) in
    let all : suc i + run ≡ n = omega arith in
    let next : suc i ≡ i + 1 = omega arith in
    take_at (front ++ rest) (drop (i + run) ps) (n - 1) long
    ∙ sym (ap₂ (λ u v. u ++ v) (take-take i n ps (omega arith)) (ap (λ k. drop (suc i) (take k ps)) (sym all) ∙ drop-take (suc i) run ps ∙ ap (λ j. take run (drop j ps)) next))
