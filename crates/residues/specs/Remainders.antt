-- Remainders stand for the integers up to multiples of p.
use Rattle.std.specs.Prelude.{◌≡◌, ℕ, zero, suc, ◌+◌, ◌*◌, ◌/◌, ◌%◌, ◌<◌, ◌≤◌, Bool, true, false, ◌&&◌, T, List, [], ◌∷◌, ℤ, pos, negsuc, ◌+ℤ◌, ◌-ℤ◌, ◌*ℤ◌, neg_ℤ, ◌==◌, ◌≢◌}
use Rattle.std.proofs.Math.Path.{refl, ap}
use Rattle.std.proofs.Common.{sym, subst, ◌∙◌, arith, eqb→eq}
use Rattle.std.proofs.Math.Decide.{ℕ_discrete}
use Rattle.std.proofs.Math.Nat.{mod-lt, div-add-mod'}
use borrow.Author.Differences.{same_out, sum_is_lem, neg_is}
use Rattle.std.specs.Int.{int_rem_euclid}
use Rattle.algebra.specs.Prime.{Prime, Multiple}
use Rattle.algebra.proofs.Ideals.{multiples}
use Rattle.algebra.proofs.Integers.{integers}
use Rattle.algebra.proofs.Solver.{Expr, var, :1, ◌:+◌, ◌:-◌, ◌:*◌, :neg, norm, solve, ⟦◌⟧}
use Rattle.residues.specs.Rest.{rest, reciprocal}

-- what `rem_euclid` computes
pub rem_euclid_rest : (p : ℕ) (z : ℤ) → int_rem_euclid z (pos p) ≡ pos (rest p z)
unfolding rest
rem_euclid_rest p (pos a) = refl
rem_euclid_rest p (negsuc a) = refl

pub rest_below : (p : ℕ) → 1 < p → (z : ℤ) → rest p z < p
unfolding rest
rest_below p large (pos a) = mod-lt a (omega arith)
rest_below p large (negsuc a) = omega arith

-- the rule of reciprocals as one test, of the numbers from 1 to n
abbrev pub all_reciprocal : ℕ → ℕ → Bool
all_reciprocal p zero = true
all_reciprocal p (suc n) = (suc n * reciprocal p (suc n)) % p == 1 && all_reciprocal p n

both : (b c : Bool) → T (b && c) → T b × T c
both true c t = (tt, t)
both false c t = absurd t

pub each_reciprocal : (p n : ℕ) → T (all_reciprocal p n) → (k : ℕ) → 0 < k → k ≤ n → (k * reciprocal p k) % p ≡ 1
each_reciprocal p zero t k h l = absurd (omega arith)
each_reciprocal p (suc n) t k h l = go (each_reciprocal p n parts.1 k h) (ℕ_discrete k (suc n))
  where
    parts : T ((suc n * reciprocal p (suc n)) % p == 1) × T (all_reciprocal p n)
    parts = both ((suc n * reciprocal p (suc n)) % p == 1) (all_reciprocal p n) t

    go : (k ≤ n → (k * reciprocal p k) % p ≡ 1) → Dec (k ≡ suc n) → (k * reciprocal p k) % p ≡ 1
    go before (yes e) = subst (λ (j : ℕ). (j * reciprocal p j) % p ≡ 1) (sym e) (eqb→eq ((suc n * reciprocal p (suc n)) % p) 1 parts.0)
    go before (no ne) = before (omega arith)

module _ (p : ℕ) (large : 1 < p) (right : (n : ℕ) → 0 < n → n < p → (n * reciprocal p n) % p ≡ 1) where
  pub ideal : Prime (Multiple p)
  ideal = multiples p large (reciprocal p) right

  open ideal use {has_sum, has_neg, has_multiple}

  -- where x = y is an identity, y is a multiple if x is
  pub turn : (ρ : List ℤ) (x y : Expr) → norm x ≡ norm y → Multiple p (⟦◌⟧ integers x ρ) → Multiple p (⟦◌⟧ integers y ρ)
  turn ρ x y e = subst (Multiple p) (solve integers ρ x y e)

  pub combined : (u x v y : ℤ) → Multiple p x → Multiple p y → Multiple p (u *ℤ x +ℤ v *ℤ y)
  combined u x v y h k = has_sum (u *ℤ x) (v *ℤ y) (has_multiple u x h) (has_multiple v y k)

  pub rest_is : (z : ℤ) → Multiple p (pos (rest p z) -ℤ z)
  unfolding rest
  rest_is (pos a) = (
    neg_ℤ (pos (a / p)),
    ap (λ t. pos (a % p) -ℤ t) (sym (ap pos (div-add-mod' a p)))
        ∙ solve integers (pos (a / p) ∷ pos p ∷ pos (a % p) ∷ []) (var 2 :- (var 0 :* var 1 :+ var 2)) (var 1 :* :neg (var 0)) refl,
  )
  rest_is (negsuc a) =
      let low : a % p < p = mod-lt a (omega arith) in
      let whole = div-add-mod' a p in
      (pos (suc (a / p)), ap pos (omega arith))

  -- two remainders that differ by a multiple of p are equal
  pub small : (n j : ℕ) → n < p → j < p → Multiple p (pos n -ℤ pos j) → n ≡ j
  small n j h i (pos zero, e) = let f = same_out (pos n -ℤ pos j) (pos (p * 0)) e in omega (arith, sum_is_lem, neg_is)
  small n j h i (pos (suc q), e) = let f = same_out (pos n -ℤ pos j) (pos (p * suc q)) e in absurd (omega (arith, sum_is_lem, neg_is))
  small n j h i (negsuc q, e) =
      let f = neg_is (pos (p * suc q)) in
      let g = same_out (pos n -ℤ pos j) (neg_ℤ (pos (p * suc q))) e in
      absurd (omega (arith, sum_is_lem, neg_is))

  pub rest_zero : (z : ℤ) → rest p z ≡ 0 → Multiple p z
  rest_zero z e =
      turn (pos (rest p z) ∷ z ∷ []) (var 0 :- (var 0 :- var 1)) (var 1) refl
      (has_sum (pos (rest p z)) (neg_ℤ (pos (rest p z) -ℤ z)) (subst (λ (n : ℕ). Multiple p (pos n)) (sym e) ideal.has_zero) (has_neg (pos (rest p z) -ℤ z) (rest_is z)))

  pub reciprocal_is : (n : ℕ) → 0 < n → n < p → Multiple p (pos n *ℤ pos (reciprocal p n) -ℤ pos 1)
  reciprocal_is n h l =
      let t = n * reciprocal p n in (
        pos (t / p),
        ap (λ (k : ℕ). pos k -ℤ pos 1) (sym (div-add-mod' t p) ∙ ap (λ (k : ℕ). t / p * p + k) (right n h l))
            ∙ solve integers (pos (t / p) ∷ pos p ∷ []) (var 0 :* var 1 :+ :1 :- :1) (var 1 :* var 0) refl,
      )

  pub inverse_is : (z : ℤ) → (Multiple p z → ⊥) → Multiple p (z *ℤ pos (reciprocal p (rest p z)) -ℤ pos 1)
  inverse_is z f =
      let r = rest p z in
      let t = reciprocal p r in
      let nonzero : (r ≢ 0) = λ e. f (rest_zero z e) in
      turn (pos r ∷ pos t ∷ z ∷ []) (:1 :* (var 0 :* var 1 :- :1) :+ :neg (var 1) :* (var 0 :- var 2)) (var 2 :* var 1 :- :1) refl
      (combined (pos 1) (pos r *ℤ pos t -ℤ pos 1) (neg_ℤ (pos t)) (pos r -ℤ z) (reciprocal_is r (omega arith) (rest_below p large z)) (rest_is z))
