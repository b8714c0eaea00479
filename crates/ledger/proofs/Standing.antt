-- Whether a wait stands, by the waits.
use Rattle.std.proofs.Common.{◌≡◌, ℕ, zero, suc, ◌+◌, ◌<◌, ◌≢◌, Bool, true, false, cond, eqb, not, ◌||◌, List, [], ◌∷◌, map, filter, length, get_or, remove, position, is_some, Some, All, sym, refl, ap, ◌∙◌, arith}
use Rattle.std.specs.List.{list_any, position_from}
use Rattle.std.proofs.lemmas.Iterator.Adapters.{position_from-zero}
use Rattle.std.proofs.lemmas.List.Quantifiers.{position-Some}
use Rattle.std.proofs.lemmas.List.Folds.{list_any_at}
use Rattle.std.proofs.lemmas.Bool.{eq-eqb, ne_eqb, eqb-true, true≢false}
use Rattle.ledger.specs.declared.wait.Wait.{Wait}
use Rattle.ledger.specs.Apart.{Apart}
use Rattle.ledger.specs.Waiting.{stands, without}

abbrev pub point : Wait → ℕ
point w = w.set_point

-- a wait for q
abbrev pub for_it : (q : ℕ) → Wait → Bool
for_it q w = eqb w.set_point q

-- a wait for another set point
abbrev pub other : (q : ℕ) → Wait → Bool
other q w = not (eqb w.set_point q)

pub stands_any : (q : ℕ) (ws : List Wait) → list_any (for_it q) ws ≡ stands q (map point ws)
stands_any q [] = refl
stands_any q (w ∷ ws) = go (for_it q w) (stands_any q ws)
  where
    go : (b : Bool) → list_any (for_it q) ws ≡ stands q (map point ws) → (b || list_any (for_it q) ws) ≡ cond b true (stands q (map point ws))
    go true e = refl
    go false e = e

pub none_stands : (q : ℕ) (ws : List Wait) → stands q (map point ws) ≡ false → All (λ w. w.set_point ≡ q → ⊥) ws
none_stands q ws e k d h same = true≢false (sym (list_any_at (for_it q) ws k d h (eq-eqb (point (get_or ws k d)) q same)) ∙ stands_any q ws ∙ e)

pub without_is : (q : ℕ) (ws : List Wait) → map point (filter (other q) ws) ≡ without q (map point ws)
without_is q [] = refl
without_is q (w ∷ ws) = go (other q w) (without_is q ws)
  where
    go : (b : Bool) → map point (filter (other q) ws) ≡ without q (map point ws) →
        map point (cond b (w ∷ filter (other q) ws) (filter (other q) ws)) ≡ cond b (w.set_point ∷ without q (map point ws)) (without q (map point ws))
    go true e = ap (λ ps. w.set_point ∷ ps) e
    go false e = e

-- it stands where its place is found
pub found_stands : (q : ℕ) (ws : List Wait) → is_some (position (for_it q) ws) ≡ stands q (map point ws)
found_stands q ws = ap is_some (position_from-zero (for_it q) ws) ∙ go 0 ws
  where
    go : (j : ℕ) (ws : List Wait) → is_some (position_from (for_it q) j ws) ≡ stands q (map point ws)
    go j [] = refl
    go j (w ∷ ws) = step (for_it q w) (go (j + 1) ws)
      where
        step : (b : Bool) → is_some (position_from (for_it q) (j + 1) ws) ≡ stands q (map point ws) →
            is_some (cond b (Some j) (position_from (for_it q) (j + 1) ws)) ≡ cond b true (stands q (map point ws))
        step true e = refl
        step false e = e

-- no other wait is for q
others : (q : ℕ) (ws : List Wait) → All (λ w. w.set_point ≢ q) ws → filter (other q) ws ≡ ws
others q [] h = refl
others q (w ∷ ws) h =
    ap (λ b. cond (not b) (w ∷ filter (other q) ws) (filter (other q) ws)) (ne_eqb w.set_point q (h 0 w (omega arith)))
    ∙ ap (λ l. w ∷ l) (others q ws (λ k d l. h (suc k) d (omega arith)))

removed : (q : ℕ) (ws : List Wait) (i : ℕ) → i < length ws → ((d : Wait) → (get_or ws i d).set_point ≡ q) → Apart ws → remove ws i ≡ filter (other q) ws
removed q [] i within at apart = absurd (omega arith)
removed q (w ∷ ws) zero within at apart =
    sym (ap (λ b. cond (not b) (w ∷ filter (other q) ws) (filter (other q) ws)) (eq-eqb w.set_point q (at w))
    ∙ others q ws (λ k d l e. apart 0 (suc k) d (omega arith) (omega arith) (at d ∙ sym e)))
removed q (w ∷ ws) (suc i) within at apart =
    ap (λ l. w ∷ l) (removed q ws i (omega arith) at (λ j k d l m. apart (suc j) (suc k) d (omega arith) (omega arith)))
    ∙ sym (ap (λ b. cond (not b) (w ∷ filter (other q) ws) (filter (other q) ws)) (ne_eqb w.set_point q (λ e. apart 0 (suc i) w (omega arith) within (e ∙ sym (at w)))))

pub removed_is : (q : ℕ) (ws : List Wait) (i : ℕ) → position (for_it q) ws ≡ Some i → Apart ws → remove ws i ≡ filter (other q) ws
removed_is q ws i found apart =
    let at = λ (d : Wait). position-Some (for_it q) ws i d found in
    removed q ws i (at (record { set_point = 0 })).0 (λ d. eqb-true (get_or ws i d).set_point q (at d).1) apart
