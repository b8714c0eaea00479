-- The subject of a working row.
use Rattle.std.proofs.Common.{◌≡◌, ℕ, zero, suc, ◌<◌, ◌≤◌, Bool, true, false, cond, List, take, Some, None, sym, refl, ap, ◌∙◌, arith, get_or-take}
use Rattle.exact.specs.Kind.{Kind}
use Rattle.rows.specs.Row.{at, highest}
use Rattle.elimination.specs.Stating.{Found}
use Rattle.elimination.specs.Steps.{subject}
use Rattle.elimination.proofs.Tests.{less}
use Rattle.elimination.proofs.Tests.{not_less}

module _ {V : Type 0} (K : Kind V) where
  -- columns past the m that are looked at do not count
  pub highest_take : (m k : ℕ) (w : List V) → m ≤ k → highest K m (take k w) ≡ highest K m w
  highest_take zero k w b = refl
  highest_take (suc m) k w b =
      ap (λ x. cond (K.is_zero x) (highest K m (take k w)) (Some m)) (get_or-take k w m K.nil (omega arith))
      ∙ ap (λ o. cond (K.is_zero (at K w m)) o (Some m)) (highest_take m k w (omega arith))

  highest_found : (m n h : ℕ) (w : List V) → m ≤ n → h < n → Found n h (highest K m w)
  highest_found zero n h w b c = tt
  highest_found (suc m) n h w b c = go (K.is_zero (at K w m)) (highest_found m n h w (omega arith) c)
    where
      go : (t : Bool) → Found n h (highest K m w) → Found n h (cond t (highest K m w) (Some m))
      go true f = f
      go false f = (omega arith, c)

  pub subject_is : (n h : ℕ) (w : List V) → h < n → (highest K n w ≡ subject K n h w) × Found n h (highest K n w)
  subject_is n h w b = (sym (ap (λ t. cond t (highest K n w) None) (less h n b)), highest_found n n h w (omega arith) b)

  pub no_subject : (n h : ℕ) (w : List V) → n ≤ h → None ≡ subject K n h w
  no_subject n h w b = sym (ap (λ t. cond t (highest K n w) None) (not_less h n b))
