-- No n + 1 numbers below n are all different, so a set point that is no subject leaves room for another line.
use Rattle.std.proofs.Common.{◌≡◌, ℕ, zero, suc, ◌<◌, sym, ◌∙◌, arith}
use native.Mathlib.Decide.{ℕ_discrete}
use native.Mathlib.Omega.{by_contra}

abbrev pick : {P : Type 0} → Dec P → ℕ → ℕ → ℕ
pick (yes p) x y = x
pick (no p) x y = y

pub pigeon : (n : ℕ) (f : ℕ → ℕ) → ((k : ℕ) → k < suc n → f k < n) → ((j k : ℕ) → j < suc n → k < suc n → f j ≡ f k → j ≡ k) → ⊥
pigeon zero f below one = let b : f 0 < 0 = below 0 (omega arith) in omega arith
pigeon (suc n) f below one = pigeon n g (λ k b. low k b (ℕ_discrete (f k) n)) (λ j k b c. same j k b c (ℕ_discrete (f j) n) (ℕ_discrete (f k) n))
  where
    v : ℕ
    v = f (suc n)

    g : ℕ → ℕ
    g k = pick (ℕ_discrete (f k) n) v (f k)

    top : v < suc n
    top = below (suc n) (omega arith)

    new : (k : ℕ) → k < suc n → f k ≡ v → ⊥
    new k b e = let d : k ≡ suc n = one k (suc n) (omega arith) (omega arith) e in omega arith

    low : (k : ℕ) → k < suc n → (d : Dec (f k ≡ n)) → pick d v (f k) < n
    low k b (yes e) = let t : v < suc n = top in away (ℕ_discrete v n) t
      where
        away : Dec (v ≡ n) → v < suc n → v < n
        away (yes d) t = absurd (new k b (e ∙ sym d))
        away (no d) t = omega arith
    low k b (no e) = let t : f k < suc n = below k (omega arith) in omega arith

    same : (j k : ℕ) → j < suc n → k < suc n → (d : Dec (f j ≡ n)) (e : Dec (f k ≡ n)) → pick d v (f j) ≡ pick e v (f k) → j ≡ k
    same j k b c (yes d) (yes e) q = one j k (omega arith) (omega arith) (d ∙ sym e)
    same j k b c (yes d) (no e) q = absurd (new k c (sym q))
    same j k b c (no d) (yes e) q = absurd (new j b q)
    same j k b c (no d) (no e) q = one j k (omega arith) (omega arith) q

-- h different numbers below n, and another one below n
pub one_left : (n h : ℕ) (s : ℕ → ℕ) (q : ℕ) → ((k : ℕ) → k < h → s k < n) → ((j k : ℕ) → j < h → k < h → s j ≡ s k → j ≡ k) → q < n → ((k : ℕ) → k < h → s k ≡ q → ⊥) → h < n
one_left n h s q below one qn new = by_contra (suc h) n (λ b. pigeon n f (λ k c. low k b c (ℕ_discrete k n)) (λ j k c d. same j k b c d (ℕ_discrete j n) (ℕ_discrete k n)))
  where
    -- the first n of them, then the other one
    f : ℕ → ℕ
    f k = pick (ℕ_discrete k n) q (s k)

    low : (k : ℕ) → n < suc h → k < suc n → (d : Dec (k ≡ n)) → pick d q (s k) < n
    low k b c (yes d) = qn
    low k b c (no d) = below k (omega arith)

    same : (j k : ℕ) → n < suc h → j < suc n → k < suc n → (d : Dec (j ≡ n)) (e : Dec (k ≡ n)) → pick d q (s j) ≡ pick e q (s k) → j ≡ k
    same j k a b c (yes d) (yes e) p = d ∙ sym e
    same j k a b c (yes d) (no e) p = absurd (new k (omega arith) (sym p))
    same j k a b c (no d) (yes e) p = absurd (new j (omega arith) p)
    same j k a b c (no d) (no e) p = one j k (omega arith) (omega arith) p
