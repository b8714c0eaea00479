-- What a fraction is made as, by its terms over the greatest common divisor.
use Rattle.std.proofs.Common.{◌≡◌, ℕ, zero, suc, ◌+◌, ◌-◌, ◌*◌, ◌/◌, ◌<◌, ◌≤◌, Bool, true, false, cond, not, T, eqb, ◌⊎◌, ℤ, pos, negsuc, ◌*ℤ◌, nat_abs, Some, None, Ok, Err, sym, refl, ap, ◌∙◌, subst, ap₂, inl, inr, mul-zero, arith}
use Rattle.std.proofs.lemmas.Int.{unsigned_abs-mul}
use mathlib.Core.Bool.{beq}
use lib.Dec.{eqb-suc-zero, leb-suc-zero}
use lib.Signed.{lt_z}
use Rattle.exact.specs.declared.fault.NumberFault.TheVariants.{Beyond, ByZero}
use Rattle.exact.specs.Answers.{held}
use Rattle.exact.specs.Fraction.{fraction}
use Rattle.fractions.specs.declared.ratio.Ratio.{Ratio}
use Rattle.fractions.specs.Lowest.{limit, LowestTerms}
use Rattle.fractions.specs.Gcd.{gcd}
use Rattle.fractions.specs.Making.{new_of}
use Rattle.fractions.specs.Reduced.{g_positive, lower_positive}
use Rattle.fractions.specs.Told.{both_within, size_positive}
use Rattle.fractions.specs.Unique.{same_terms}
use Rattle.fractions.specs.Value.{negative, differ, signed, abs_signed, within, within_parts, terms_lowest, made, over, value_of}

pub not_zero_test : (z : ℤ) → (z ≡ pos 0 → ⊥) → eqb (nat_abs z) 0 ≡ false
not_zero_test (pos zero) f = absurd (f refl)
not_zero_test (pos (suc n)) f = eqb-suc-zero n
not_zero_test (negsuc n) f = eqb-suc-zero n

pub new_nonzero : (top bottom : ℤ) → (bottom ≡ pos 0 → ⊥) → held (value_of (fraction top bottom)) ≡ new_of top bottom
new_nonzero top bottom f = sym (ap (λ b. cond b (Err ByZero) (held (value_of (fraction top bottom)))) (not_zero_test bottom f))

module _ (s : Bool) (a b : ℕ) where
  abbrev m : ℕ
  m = a / gcd a b

  abbrev d : ℕ
  d = b / gcd a b

  some : (v : Ratio) → v.num ≡ signed s m → v.den ≡ d → over s a b ≡ Some v
  unfolding over made
  some v p q = go (within m d) (λ t. t) (both_within m d (subst (λ (n : ℕ). 1 ≤ n) q v.held.0) (subst (λ (n : ℕ). n ≤ limit) q v.held.1) (subst (λ (n : ℕ). n ≤ limit) (ap nat_abs p ∙ abs_signed s m) v.held.2))
    where
      go : (t : Bool) (h : T t → T (within m d)) → T t → made s a b t h ≡ Some v
      go true h i = ap Some (same_terms _ v (sym p) (sym q))
      go false h i = absurd i

  none : (T (within m d) → ⊥) → over s a b ≡ None
  unfolding over made
  none f = go (within m d) (λ t. t)
    where
      go : (t : Bool) (h : T t → T (within m d)) → made s a b t h ≡ None
      go true h = absurd (f (h tt))
      go false h = refl

-- the sizes of top and bottom, and their greatest common divisor
pub record Sizes (top bottom : ℤ) (a b g : ℕ) : Type 0 where
  pub nonzero : bottom ≡ pos 0 → ⊥
  pub above : a ≡ nat_abs top
  pub below : b ≡ nat_abs bottom
  pub common : g ≡ gcd a b

module _ {top bottom : ℤ} {a b g : ℕ} (𝓢 : Sizes top bottom a b g) where
  open 𝓢 use {nonzero, above, below, common}

  abbrev sign : Bool
  sign = differ (negative top) (negative bottom)

  pub common_positive : 0 < g
  common_positive = subst (λ (n : ℕ). 0 < n) (sym common) (g_positive a b (subst (λ (n : ℕ). 0 < n) (sym below) (size_positive bottom nonzero)))

  pub new_lowest : (s : Bool) (num : ℤ) → num ≡ signed s (a / g) → a / g ≤ limit → b / g ≤ limit → LowestTerms num (b / g)
  new_lowest s num e k l =
      let p : LowestTerms (signed s (a / g)) (b / g) = subst (λ (n : ℕ). LowestTerms (signed s (a / n)) (b / n)) (sym common) (terms_lowest s a b (subst (λ (n : ℕ). T (within (a / n) (b / n))) common (both_within (a / g) (b / g) low l k))) in
      subst (λ z. LowestTerms z (b / g)) (sym e) p
    where
      low : 0 < b / g
      low = subst (λ (n : ℕ). 0 < b / n) (sym common) (lower_positive a b (subst (λ (n : ℕ). 0 < n) (sym below) (size_positive bottom nonzero)))

  over_is : held (over sign a b) ≡ new_of top bottom
  unfolding value_of
  over_is = ap₂ (λ (m n : ℕ). held (over sign m n)) above below ∙ new_nonzero top bottom nonzero

  pub new_held : (v : Ratio) → v.num ≡ signed sign (a / g) → v.den ≡ b / g → Ok v ≡ new_of top bottom
  new_held v p q = sym (ap held (some sign a b v (p ∙ ap (λ (n : ℕ). signed sign (a / n)) common) (q ∙ ap (λ (n : ℕ). b / n) common))) ∙ over_is

  pub new_beyond : (limit < a / g) ⊎ ((a / g ≤ limit) × (limit < b / g)) → Err Beyond ≡ new_of top bottom
  new_beyond h = sym (ap held (none sign a b (λ t. large h (within_parts (a / g) (b / g) (subst (λ (n : ℕ). T (within (a / n) (b / n))) (sym common) t))))) ∙ over_is
    where
      large : (limit < a / g) ⊎ ((a / g ≤ limit) × (limit < b / g)) → (1 ≤ b / g) × (b / g ≤ limit) × (a / g ≤ limit) → ⊥
      large (inl k) p = omega (arith, p.2)
      large (inr k) p = omega (arith, k.1, p.1)

-- the signs, as the code compares them
pub below_zero : (z : ℤ) → lt_z z (pos 0) ≡ negative z
below_zero (pos n) = leb-suc-zero n
below_zero (negsuc n) = refl

pub unlike : (s t : Bool) → not (beq s t) ≡ differ s t
unlike false false = refl
unlike false true = refl
unlike true false = refl
unlike true true = refl

-- a product by a number that is not 0 is 0 where the other factor is
pub product_zero : (d : ℕ) → 1 ≤ d → (z : ℤ) → eqb (nat_abs (pos d *ℤ z)) 0 ≡ eqb (nat_abs z) 0
product_zero d h z = ap (λ (n : ℕ). eqb n 0) (unsigned_abs-mul (pos d) z) ∙ go (nat_abs z)
  where
    go : (n : ℕ) → eqb (d * n) 0 ≡ eqb n 0
    go zero = ap (λ (k : ℕ). eqb k 0) (mul-zero d)
    go (suc n) = let more : d * suc n ≡ suc (d * n + (d - 1)) = omega arith in ap (λ (k : ℕ). eqb k 0) more ∙ eqb-suc-zero (d * n + (d - 1)) ∙ sym (eqb-suc-zero n)
