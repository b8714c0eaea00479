-- The ideal of 0 and that of the multiples of a number p are prime, the latter where all residues but 0 have reciprocals.
use mathlib.Core.Path.{◌≡◌, refl, sym, ◌∙◌, ap, ap₂}
use mathlib.Core.List.{[], ◌∷◌}
use Prim.Native.Nat.{ℕ, zero, suc, ◌+◌, ◌*◌, ◌/◌, ◌%◌, ◌<◌}
use native.Mathlib.Decide.{ℕ_discrete}
use native.Mathlib.Nat.{div-add-mod', mod-lt}
use native.Mathlib.Omega.{arith}
use lib.IntN.{ℤ, pos, negsuc, nat_abs, ◌+ℤ◌, ◌-ℤ◌, ◌*ℤ◌, neg_ℤ, neg_ℤ-neg_ℤ, pos-ne-negsuc, *ℤ-zero}
use Rattle.exact.specs.Fraction.{Equal}
use Rattle.exact.specs.Kind.{KindLaws}
use Rattle.algebra.specs.Prime.{Prime, Admits, Alike, Nought, Multiple}
use Rattle.algebra.proofs.Solver.{Expr, var, :1, ◌:+◌, ◌:-◌, ◌:*◌, :neg, solve}
use Rattle.algebra.proofs.Integers.{integers, no_divisors, difference_zero, zero_difference}
use Rattle.algebra.proofs.PrimeKind.{prime_laws, said_otherwise}

abbrev v0 : Expr
v0 = var 0

abbrev v1 : Expr
v1 = var 1

abbrev v2 : Expr
v2 = var 2

abbrev v3 : Expr
v3 = var 3

pub nought : Prime Nought
nought = record {
  has_zero = refl;
  has_sum = λ a b h k. ap₂ ◌+ℤ◌ h k;
  has_neg = λ a h. ap neg_ℤ h;
  has_multiple = λ a b h. ap (λ z. a *ℤ z) h ∙ *ℤ-zero a;
  not_one = λ h. let d : 1 ≡ 0 = ap nat_abs h in omega arith;
  prime = no_divisors;
}

-- equal fractions are those alike up to the ideal of 0
pub ordinary_laws : KindLaws (Admits Nought) Equal
ordinary_laws =
    said_otherwise (λ a b h. zero_difference (a.top *ℤ b.bottom) (a.bottom *ℤ b.top) h) (λ a b h. difference_zero (a.top *ℤ b.bottom) (a.bottom *ℤ b.top) h) (prime_laws Nought nought)

-- ---- the multiples of p
module _ (p : ℕ) (large : 1 < p) (inv : ℕ → ℕ) (right : (r : ℕ) → 0 < r → r < p → (r * inv r) % p ≡ 1) where
  Inverse : ℤ → Type 0
  Inverse a = (i j : ℤ) × (a *ℤ i ≡ pos 1 +ℤ pos p *ℤ j)

  inverse_nat : (n : ℕ) → (Multiple p (pos n) → ⊥) → Inverse (pos n)
  unfolding Inverse
  inverse_nat n f = (pos i, pos (n / p * i + j), ap pos whole)
    where
      r : ℕ
      r = n % p

      i : ℕ
      i = inv r

      j : ℕ
      j = (r * i) / p

      e : n ≡ p * (n / p) + r
      e = omega arith

      r_pos : Dec (r ≡ 0) → 0 < r
      r_pos (yes z) = absurd (f (pos (n / p), ap pos (omega (arith, e, z))))
      r_pos (no ne) = omega arith

      table : r * i ≡ 1 + p * j
      table = let one = right r (r_pos (ℕ_discrete r 0)) (mod-lt n (omega arith)) in omega (arith, div-add-mod' (r * i) p)

      whole : n * i ≡ 1 + p * (n / p * i + j)
      whole = omega (arith, ap (λ z. z * i) e, table)

  inverse : (a : ℤ) → (Multiple p a → ⊥) → Inverse a
  unfolding Inverse
  inverse (pos n) f = inverse_nat n f
  inverse (negsuc n) f = go (inverse_nat (suc n) (λ t. f (neg_ℤ t.0, ap neg_ℤ t.1 ∙ solve integers (pos p ∷ t.0 ∷ []) (:neg (v0 :* v1)) (v0 :* :neg v1) refl)))
    where
      go : Inverse (pos (suc n)) → Inverse (negsuc n)
      go t = (neg_ℤ t.0, t.1, solve integers (pos (suc n) ∷ t.0 ∷ []) (:neg v0 :* :neg v1) (v0 :* v1) refl ∙ t.2)

  no_one : Multiple p (pos 1) → ⊥
  no_one (pos zero, e) = let d : 1 ≡ p * 0 = ap nat_abs e in omega arith
  no_one (pos (suc k), e) = let d : 1 ≡ p * suc k = ap nat_abs e in omega arith
  no_one (negsuc k, e) = pos-ne-negsuc (p * suc k) 0 (sym (ap neg_ℤ e ∙ neg_ℤ-neg_ℤ (pos (p * suc k))))

  cancel : (a b : ℤ) → Multiple p (a *ℤ b) → (Multiple p a → ⊥) → Multiple p b
  unfolding Inverse
  cancel a b m f = go (inverse a f)
    where
      go : Inverse a → Multiple p b
      go t = (
        t.0 *ℤ m.0 -ℤ t.1 *ℤ b,
        solve integers (b ∷ pos p ∷ t.1 ∷ []) v0 ((:1 :+ v1 :* v2) :* v0 :- v1 :* (v2 :* v0)) refl
            ∙ ap (λ z. z *ℤ b -ℤ pos p *ℤ (t.1 *ℤ b)) (sym t.2)
            ∙ solve integers (b ∷ (pos p *ℤ (t.1 *ℤ b)) ∷ a ∷ t.0 ∷ []) (v2 :* v3 :* v0 :- v1) (v3 :* (v2 :* v0) :- v1) refl
            ∙ ap (λ z. t.0 *ℤ z -ℤ pos p *ℤ (t.1 *ℤ b)) m.1
            ∙ solve integers (pos p ∷ m.0 ∷ t.0 ∷ (t.1 *ℤ b) ∷ []) (v2 :* (v0 :* v1) :- v0 :* v3) (v0 :* (v2 :* v1 :- v3)) refl,
      )

  pub multiples : Prime (Multiple p)
  multiples = record {
    has_zero = (pos 0, sym (*ℤ-zero (pos p)));
    has_sum = λ a b h k. (h.0 +ℤ k.0, ap₂ ◌+ℤ◌ h.1 k.1 ∙ solve integers (pos p ∷ h.0 ∷ k.0 ∷ []) (v0 :* v1 :+ v0 :* v2) (v0 :* (v1 :+ v2)) refl);
    has_neg = λ a h. (neg_ℤ h.0, ap neg_ℤ h.1 ∙ solve integers (pos p ∷ h.0 ∷ []) (:neg (v0 :* v1)) (v0 :* :neg v1) refl);
    has_multiple = λ a b h. (a *ℤ h.0, ap (λ z. a *ℤ z) h.1 ∙ solve integers (pos p ∷ h.0 ∷ a ∷ []) (v2 :* (v0 :* v1)) (v0 :* (v2 :* v1)) refl);
    not_one = no_one;
    prime = cancel;
  }

  pub residue_laws : KindLaws (Admits (Multiple p)) (Alike (Multiple p))
  residue_laws = prime_laws (Multiple p) multiples
