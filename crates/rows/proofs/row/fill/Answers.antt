use Rattle.std.proofs.Common.{◌≡◌, List, [], ◌∷◌, length, replicate, refl, ap, ap₂, ◌∙◌, subst, rules}
use Rattle.std.specs.List.{FoldsTo}
use Rattle.rows.proofs.row.fill.Goals as goal

-- what calls that all answer v, and leave the closure as it was, give
all_same : {P X : Type 0} (R : P → X → P → Type 0) (p : P) (v : X) → ((x : X) (q : P) → R p x q → (q ≡ p) × (x ≡ v)) → (xs : List X) (last : P) → FoldsTo R p xs last → xs ≡ replicate (length xs) v
all_same R p v k [] last h = refl
all_same R p v k (x ∷ xs) last h =
    let e = k x h.0 h.1 in
    ap₂ (λ y ys. y ∷ ys) e.1 (all_same R p v k xs last (subst (λ q. FoldsTo R q xs last) e.0 h.2))

pub returns : goal.returns
returns g c =
    let ran = c.fill_with.ensures.ran in
    all_same _ _ c.args.v (λ x q r. (search rules, search rules)) c.fill_with.new.self ran.0 ran.1 ∙ ap (λ n. replicate n c.args.v) c.fill_with.ensures.len
