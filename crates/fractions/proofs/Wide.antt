-- 64-bit numbers, as the code has them: which integer one is, and how large.
use Rattle.std.proofs.Common.{◌≡◌, ℕ, ◌*◌, ◌≤◌, T, leb, ℤ, pos, ◌-ℤ◌, ◌*ℤ◌, nat_abs, sym, ap, ◌∙◌, subst, ap₂, arith, leb→le, w32, w64, SFits, to_z, of_z}
use Rattle.std.proofs.lemmas.Int.{ints, to_z-of_z, unsigned_abs-mul}
use Rattle.std.proofs.lemmas.Nat.{mul-le}
use Rattle.fractions.specs.declared.ratio.Ratio.{Ratio}

abbrev million : ℕ
million = 1000000

abbrev most : ℕ
most = million * million * million

-- as the code has a number that it hands on
abbrev S : ℤ → ℤ
S z = to_z w64 (of_z w64 z)

-- the number r of the code is z, which is at most n
pub record Is (r z : ℤ) (n : ℕ) : Type 0 where
  pub is : r ≡ z
  pub small : nat_abs z ≤ n

again : (z : ℤ) → nat_abs z ≤ most → S z ≡ z
again z h = omega (arith, ints)

fits : (z : ℤ) → nat_abs z ≤ most → SFits w64 z
fits z h = omega (arith, ints)

difference_fits : (x y : ℤ) → nat_abs x ≤ most → nat_abs y ≤ most → SFits w64 (x -ℤ y)
difference_fits x y h k = omega (arith, ints)

narrow : (z : ℤ) → nat_abs z ≤ million → to_z w32 (of_z w32 z) ≡ z
narrow z h = omega (arith, ints)

-- handed on
kept : {r z : ℤ} {n : ℕ} → T (leb n most) → Is r z n → Is (S r) z n
kept {r} {z} {n} t h =
    let k = leb→le n most t in
    let s = h.small in
    record { is = ap S h.is ∙ again z (omega arith); small = s }

pub num_is : (v : Ratio) {r : ℤ} → r ≡ to_z w32 (of_z w32 v.num) → Is (S r) v.num million
num_is v e = kept tt (record { is = e ∙ narrow v.num v.held.2; small = v.held.2 })

pub den_is : (v : Ratio) {r : ℤ} → r ≡ pos v.den → Is (S r) (pos v.den) million
den_is v e = kept tt (record { is = e; small = v.held.1 })

product : {r s x y : ℤ} {m n : ℕ} → Is r x m → Is s y n → Is (r *ℤ s) (x *ℤ y) (m * n)
product {x = x} {y = y} {m = m} {n = n} h k = record {
  is = ap₂ ◌*ℤ◌ h.is k.is;
  small = subst (λ (a : ℕ). a ≤ m * n) (sym (unsigned_abs-mul x y)) (mul-le (nat_abs x) (nat_abs y) m n h.small k.small);
}

pub times_is : {r s x y : ℤ} {m n : ℕ} → T (leb (m * n) most) → Is r x m → Is s y n → Is (S (r *ℤ s)) (x *ℤ y) (m * n)
times_is t h k = kept t (product h k)

pub times_fits : {r s x y : ℤ} {m n : ℕ} → T (leb (m * n) most) → Is r x m → Is s y n → SFits w64 (r *ℤ s)
times_fits {x = x} {y = y} {m = m} {n = n} t h k =
    let p = product h k in
    let l = leb→le (m * n) most t in
    let s = p.small in
    subst (SFits w64) (sym p.is) (fits (x *ℤ y) (omega arith))

pub minus_fits : {r s x y : ℤ} → Is r x most → Is s y most → SFits w64 (r -ℤ s)
minus_fits {x = x} {y = y} h k = subst (SFits w64) (sym (ap₂ ◌-ℤ◌ h.is k.is)) (difference_fits x y h.small k.small)

pub minus_is : {r s x y : ℤ} → Is r x most → Is s y most → S (r -ℤ s) ≡ x -ℤ y
minus_is h k = to_z-of_z w64 _ (minus_fits h k) ∙ ap₂ ◌-ℤ◌ h.is k.is
