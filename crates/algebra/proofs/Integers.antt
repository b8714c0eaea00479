-- The integers are a commutative ring without divisors of 0.
use mathlib.Core.Path.{◌≡◌, refl, sym, ◌∙◌, ap, ap₂}
use mathlib.Core.List.{[], ◌∷◌}
use Prim.Native.Nat.{zero, suc, ◌*◌}
use native.Mathlib.Omega.{arith}
use lib.IntN.{ℤ, pos, negsuc, nat_abs, suc_ℤ, pred_ℤ, ◌+ℤ◌, ◌-ℤ◌, ◌*ℤ◌, neg_ℤ, suc_ℤ-+ℤ, pred_ℤ-+ℤ, +ℤ_idl, +ℤ_idr, +ℤ_assoc, +ℤ_comm, +ℤ_invr, suc_ℤ-*ℤ, pred_ℤ-*ℤ, zero-*ℤ, *ℤ_comm, *ℤ-one, neg_ℤ-suc_ℤ, neg_ℤ-pred_ℤ, neg_ℤ-+ℤ, neg_ℤ-neg_ℤ, one}
use Rattle.algebra.specs.Ring.{Ring}
use Rattle.algebra.proofs.Solver.{var, ◌:+◌, ◌:-◌, ◌:*◌, solve}

ind : (P : ℤ → Type 0) → P (pos zero) → ((k : ℤ) → P k → P (suc_ℤ k)) → ((k : ℤ) → P k → P (pred_ℤ k)) → (k : ℤ) → P k
ind P z s p (pos zero) = z
ind P z s p (pos (suc n)) = s (pos n) (ind P z s p (pos n))
ind P z s p (negsuc zero) = p (pos zero) z
ind P z s p (negsuc (suc n)) = p (negsuc n) (ind P z s p (negsuc n))

-- (x + y) + z = (x + z) + y
right_swap : (x y z : ℤ) → x +ℤ y +ℤ z ≡ x +ℤ z +ℤ y
right_swap x y z = +ℤ_assoc x y z ∙ ap (λ w. x +ℤ w) (+ℤ_comm y z) ∙ sym (+ℤ_assoc x z y)

pub +ℤ-*ℤ : (a b c : ℤ) → (a +ℤ b) *ℤ c ≡ a *ℤ c +ℤ b *ℤ c
+ℤ-*ℤ a b c = ind (λ a. (a +ℤ b) *ℤ c ≡ a *ℤ c +ℤ b *ℤ c)
    (ap (λ x. x *ℤ c) (+ℤ_idl b) ∙ sym (ap (λ x. x +ℤ b *ℤ c) (zero-*ℤ c) ∙ +ℤ_idl (b *ℤ c)))
    (λ k h. ap (λ x. x *ℤ c) (suc_ℤ-+ℤ k b) ∙ suc_ℤ-*ℤ (k +ℤ b) c ∙ ap (λ x. x +ℤ c) h ∙ right_swap (k *ℤ c) (b *ℤ c) c ∙ ap (λ x. x +ℤ b *ℤ c) (sym (suc_ℤ-*ℤ k c)))
    (λ k h. ap (λ x. x *ℤ c) (pred_ℤ-+ℤ k b) ∙ pred_ℤ-*ℤ (k +ℤ b) c ∙ ap (λ x. x -ℤ c) h ∙ right_swap (k *ℤ c) (b *ℤ c) (neg_ℤ c) ∙ ap (λ x. x +ℤ b *ℤ c) (sym (pred_ℤ-*ℤ k c)))
    a

pub negℤ-*ℤ : (a c : ℤ) → neg_ℤ a *ℤ c ≡ neg_ℤ (a *ℤ c)
negℤ-*ℤ a c = ind (λ a. neg_ℤ a *ℤ c ≡ neg_ℤ (a *ℤ c))
    (zero-*ℤ c ∙ sym (ap neg_ℤ (zero-*ℤ c)))
    (λ k h. ap (λ x. x *ℤ c) (neg_ℤ-suc_ℤ k) ∙ pred_ℤ-*ℤ (neg_ℤ k) c ∙ ap (λ x. x -ℤ c) h ∙ sym (neg_ℤ-+ℤ (k *ℤ c) c) ∙ ap neg_ℤ (sym (suc_ℤ-*ℤ k c)))
    (λ k h. ap (λ x. x *ℤ c) (neg_ℤ-pred_ℤ k) ∙ suc_ℤ-*ℤ (neg_ℤ k) c ∙ ap (λ x. x +ℤ c) h ∙ sym (ap neg_ℤ (pred_ℤ-*ℤ k c) ∙ neg_ℤ-+ℤ (k *ℤ c) (neg_ℤ c) ∙ ap (λ x. neg_ℤ (k *ℤ c) +ℤ x) (neg_ℤ-neg_ℤ c)))
    a

pub *ℤ-assoc : (a b c : ℤ) → (a *ℤ b) *ℤ c ≡ a *ℤ (b *ℤ c)
*ℤ-assoc a b c = ind (λ a. (a *ℤ b) *ℤ c ≡ a *ℤ (b *ℤ c))
    (ap (λ x. x *ℤ c) (zero-*ℤ b) ∙ zero-*ℤ c ∙ sym (zero-*ℤ (b *ℤ c)))
    (λ k h. ap (λ x. x *ℤ c) (suc_ℤ-*ℤ k b) ∙ +ℤ-*ℤ (k *ℤ b) b c ∙ ap (λ x. x +ℤ b *ℤ c) h ∙ sym (suc_ℤ-*ℤ k (b *ℤ c)))
    (λ k h. ap (λ x. x *ℤ c) (pred_ℤ-*ℤ k b) ∙ +ℤ-*ℤ (k *ℤ b) (neg_ℤ b) c ∙ ap₂ (λ x y. x +ℤ y) h (negℤ-*ℤ b c) ∙ sym (pred_ℤ-*ℤ k (b *ℤ c)))
    a

pub *ℤ-1 : (a : ℤ) → a *ℤ pos 1 ≡ a
unfolding one
*ℤ-1 a = *ℤ-one a

abbrev pub integers : Ring
integers = record {
  El = ℤ;
  ◌≈◌ = λ a b. a ≡ b;
  𝟘 = pos 0;
  𝟙 = pos 1;
  ◌⊕◌ = ◌+ℤ◌;
  ◌⊗◌ = ◌*ℤ◌;
  neg = neg_ℤ;
  rf = refl;
  sy = λ p. sym p;
  tr = λ p q. p ∙ q;
  add_cong = λ p q. ap₂ ◌+ℤ◌ p q;
  mul_cong = λ p q. ap₂ ◌*ℤ◌ p q;
  neg_cong = λ p. ap neg_ℤ p;
  add_assoc = +ℤ_assoc;
  add_comm = +ℤ_comm;
  add_zero = +ℤ_idr;
  add_neg = +ℤ_invr;
  mul_assoc = *ℤ-assoc;
  mul_comm = *ℤ_comm;
  mul_one = *ℤ-1;
  mul_add = λ a b c. *ℤ_comm a (b +ℤ c) ∙ +ℤ-*ℤ b c a ∙ ap₂ ◌+ℤ◌ (*ℤ_comm b a) (*ℤ_comm c a);
}

-- a product is 0 only if a factor is
pub no_divisors : (a b : ℤ) → a *ℤ b ≡ pos 0 → (a ≡ pos 0 → ⊥) → b ≡ pos 0
no_divisors (pos zero) b e f = absurd (f refl)
no_divisors (pos (suc a)) (pos zero) e f = refl
no_divisors (pos (suc a)) (pos (suc b)) e f = let d : suc a * suc b ≡ 0 = ap nat_abs e in absurd (omega arith)
no_divisors (pos (suc a)) (negsuc b) e f = let d : suc a * suc b ≡ 0 = ap nat_abs (sym (neg_ℤ-neg_ℤ (pos (suc a * suc b))) ∙ ap neg_ℤ e) in absurd (omega arith)
no_divisors (negsuc a) (pos zero) e f = refl
no_divisors (negsuc a) (pos (suc b)) e f = let d : suc a * suc b ≡ 0 = ap nat_abs (sym (neg_ℤ-neg_ℤ (pos (suc a * suc b))) ∙ ap neg_ℤ e) in absurd (omega arith)
no_divisors (negsuc a) (negsuc b) e f = let d : suc a * suc b ≡ 0 = ap nat_abs e in absurd (omega arith)

pub difference_zero : (a b : ℤ) → a ≡ b → a -ℤ b ≡ pos 0
difference_zero a b e = ap (λ z. z -ℤ b) e ∙ +ℤ_invr b

pub zero_difference : (a b : ℤ) → a -ℤ b ≡ pos 0 → a ≡ b
zero_difference a b e = solve integers (a ∷ b ∷ []) (var 0) (var 0 :- var 1 :+ var 1) refl ∙ ap (λ z. z +ℤ b) e ∙ +ℤ_idl b

-- a factor that is not 0 cancels
pub cancel_factor : (c a b : ℤ) → (c ≡ pos 0 → ⊥) → c *ℤ a ≡ c *ℤ b → a ≡ b
cancel_factor c a b f e =
    zero_difference a b (no_divisors c (a -ℤ b) (solve integers (c ∷ a ∷ b ∷ []) (var 0 :* (var 1 :- var 2)) (var 0 :* var 1 :- var 0 :* var 2) refl ∙ difference_zero (c *ℤ a) (c *ℤ b) e) f)
