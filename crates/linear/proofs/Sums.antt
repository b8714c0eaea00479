-- Finite sums over a ring, and the value of a line: how far its left side is from its right side.
use Rattle.std.proofs.Common.{◌≡◌, ℕ, zero, suc, ◌<◌, Bool, true, false, cond, T, eqb, [], ◌∷◌, sym, refl, subst, arith, eqb→eq}
use native.Mathlib.Decide.{ℕ_discrete}
use lib.Dec.{eqb_refl}
use Rattle.algebra.specs.Ring.{Ring}
use Rattle.linear.specs.Linear.{sum, δ, val}
use Rattle.algebra.proofs.Solver.{Expr, var, ◌:+◌, ◌:-◌, ◌:*◌, solve, mul_zero, zero_mul, neg_zero, zero_add}

-- variables for the ring solver
abbrev pub v0 : Expr
v0 = var 0

abbrev pub v1 : Expr
v1 = var 1

abbrev pub v2 : Expr
v2 = var 2

abbrev pub v3 : Expr
v3 = var 3

abbrev pub v4 : Expr
v4 = var 4

module _ (𝓡 : Ring) where
  infix 4 ◌≈◌
  infixl 6 ◌⊕◌
  infixl 7 ◌⊗◌
  open 𝓡 use {El, ◌≈◌, 𝟘, 𝟙, ◌⊕◌, ◌⊗◌, neg, rf, sy, tr, add_cong, mul_cong, neg_cong, add_zero, add_neg, mul_assoc, mul_comm, mul_one, mul_add}

  abbrev ∑ : ℕ → (ℕ → El) → El
  ∑ = sum 𝓡

  -- if a - b is 0, a is b
  pub minus : {a b : El} → a ⊕ neg b ≈ 𝟘 → a ≈ b
  minus {a} {b} h = tr (solve 𝓡 (a ∷ b ∷ []) v0 ((v0 :- v1) :+ v1) refl) (tr (add_cong h rf) (zero_add 𝓡 b))

  pub minus_same : {a b : El} → a ≈ b → a ⊕ neg b ≈ 𝟘
  minus_same {a} {b} h = tr (add_cong h rf) (add_neg b)

  pub sum_cong : (n : ℕ) {f g : ℕ → El} → ((i : ℕ) → i < n → f i ≈ g i) → ∑ n f ≈ ∑ n g
  sum_cong zero h = rf
  sum_cong (suc n) h = add_cong (sum_cong n (λ i b. h i (omega arith))) (h n (omega arith))

  pub sum_zero : (n : ℕ) {f : ℕ → El} → ((i : ℕ) → i < n → f i ≈ 𝟘) → ∑ n f ≈ 𝟘
  sum_zero zero h = rf
  sum_zero (suc n) h = tr (add_cong (sum_zero n (λ i b. h i (omega arith))) (h n (omega arith))) (add_zero 𝟘)

  pub sum_add : (n : ℕ) (f g : ℕ → El) → ∑ n (λ i. f i ⊕ g i) ≈ ∑ n f ⊕ ∑ n g
  sum_add zero f g = sy (add_zero 𝟘)
  sum_add (suc n) f g = tr (add_cong (sum_add n f g) rf) (solve 𝓡 (∑ n f ∷ ∑ n g ∷ f n ∷ g n ∷ []) ((v0 :+ v1) :+ (v2 :+ v3)) ((v0 :+ v2) :+ (v1 :+ v3)) refl)

  pub sum_mul : (n : ℕ) (a : El) (f : ℕ → El) → ∑ n (λ i. a ⊗ f i) ≈ a ⊗ ∑ n f
  sum_mul zero a f = sy (mul_zero 𝓡 a)
  sum_mul (suc n) a f = tr (add_cong (sum_mul n a f) rf) (sy (mul_add a (∑ n f) (f n)))

  pub sum_mulr : (n : ℕ) (a : El) (f : ℕ → El) → ∑ n (λ i. f i ⊗ a) ≈ ∑ n f ⊗ a
  sum_mulr n a f = tr (sum_cong n (λ i b. mul_comm (f i) a)) (tr (sum_mul n a f) (mul_comm a (∑ n f)))

  pub sum_lin : (n : ℕ) (a : El) (f g : ℕ → El) → ∑ n (λ i. f i ⊕ a ⊗ g i) ≈ ∑ n f ⊕ a ⊗ ∑ n g
  sum_lin n a f g = tr (sum_add n f (λ i. a ⊗ g i)) (add_cong rf (sum_mul n a g))

  pub sum_swap : (n m : ℕ) (f : ℕ → ℕ → El) → ∑ n (λ i. ∑ m (λ j. f i j)) ≈ ∑ m (λ j. ∑ n (λ i. f i j))
  sum_swap zero m f = sy (sum_zero m (λ j b. rf))
  sum_swap (suc n) m f = tr (add_cong (sum_swap n m f) rf) (sy (sum_add m (λ j. ∑ n (λ i. f i j)) (λ j. f n j)))

  -- all terms but one are 0
  pub sum_one : (n k : ℕ) (f : ℕ → El) → k < n → ((i : ℕ) → i < n → (i ≡ k → ⊥) → f i ≈ 𝟘) → ∑ n f ≈ f k
  sum_one zero k f b h = absurd (omega arith)
  sum_one (suc n) k f b h = go (sum_one n k f) (ℕ_discrete n k)
    where
      go : (k < n → ((i : ℕ) → i < n → (i ≡ k → ⊥) → f i ≈ 𝟘) → ∑ n f ≈ f k) → Dec (n ≡ k) → ∑ n f ⊕ f n ≈ f k
      go ih (yes e) = subst (λ z. ∑ n f ⊕ f n ≈ f z) e (tr (add_cong (sum_zero n (λ i c. h i (omega arith) (λ d. omega arith))) rf) (zero_add 𝓡 (f n)))
      go ih (no ne) = tr (add_cong (ih (omega arith) (λ i c d. h i (omega arith) d)) (h n (omega arith) ne)) (add_zero (f k))

  δ_at : (b : Bool) → T b → cond b 𝟙 𝟘 ≈ 𝟙
  δ_at true t = rf
  δ_at false t = absurd t

  δ_off : (b : Bool) → (T b → ⊥) → cond b 𝟙 𝟘 ≈ 𝟘
  δ_off true t = absurd (t tt)
  δ_off false t = rf

  pub δ_same : (i : ℕ) → δ 𝓡 i i ≈ 𝟙
  δ_same i = δ_at (eqb i i) (eqb_refl i)

  pub δ_apart : {i j : ℕ} → (i ≡ j → ⊥) → δ 𝓡 i j ≈ 𝟘
  δ_apart {i} {j} h = δ_off (eqb i j) (λ t. h (eqb→eq i j t))

  pub δ_comm : (i j : ℕ) → δ 𝓡 i j ≈ δ 𝓡 j i
  δ_comm i j = go (ℕ_discrete i j)
    where
      go : Dec (i ≡ j) → δ 𝓡 i j ≈ δ 𝓡 j i
      go (yes e) = subst (λ z. δ 𝓡 i z ≈ δ 𝓡 z i) e rf
      go (no ne) = tr (δ_apart ne) (sy (δ_apart (λ e. ne (sym e))))

  -- factors that are 1 at k and 0 elsewhere pick one term
  pub sum_pick : (n k : ℕ) (f g : ℕ → El) → k < n → ((i : ℕ) → i < n → g i ≈ δ 𝓡 k i) → ∑ n (λ i. f i ⊗ g i) ≈ f k
  sum_pick n k f g b h = tr (sum_one n k (λ i. f i ⊗ g i) b (λ i c ne. tr (mul_cong rf (tr (h i c) (δ_apart (λ e. ne (sym e))))) (mul_zero 𝓡 (f i))))
      (tr (mul_cong rf (tr (h k b) (δ_same k))) (mul_one (f k)))

  -- a sum of sums, in which the middle factor is summed first
  pub sum_mid : (n m : ℕ) (w : ℕ → El) (f : ℕ → ℕ → El) (g : ℕ → El) → ∑ n (λ i. w i ⊗ ∑ m (λ j. f i j ⊗ g j)) ≈ ∑ m (λ j. ∑ n (λ i. w i ⊗ f i j) ⊗ g j)
  sum_mid n m w f g = tr (sum_cong n (λ i b. tr (sy (sum_mul m (w i) (λ j. f i j ⊗ g j))) (sum_cong m (λ j c. sy (mul_assoc (w i) (f i j) (g j))))))
      (tr (sum_swap n m (λ i j. w i ⊗ f i j ⊗ g j)) (sum_cong m (λ j c. sum_mulr n (g j) (λ i. w i ⊗ f i j))))

  pub val_cong : (n : ℕ) (x : ℕ → El) {f g : ℕ → El} → ((u : ℕ) → u < suc n → f u ≈ g u) → val 𝓡 n x f ≈ val 𝓡 n x g
  val_cong n x h = add_cong (sum_cong n (λ u b. mul_cong (h u (omega arith)) rf)) (neg_cong (h n (omega arith)))

  pub val_lin : (n : ℕ) (x : ℕ → El) (a : El) (f g : ℕ → El) → val 𝓡 n x (λ u. f u ⊕ a ⊗ g u) ≈ val 𝓡 n x f ⊕ a ⊗ val 𝓡 n x g
  val_lin n x a f g = tr (add_cong (tr (sum_cong n (λ u b. solve 𝓡 (f u ∷ a ∷ g u ∷ x u ∷ []) ((v0 :+ v1 :* v2) :* v3) (v0 :* v3 :+ v1 :* (v2 :* v3)) refl))
      (sum_lin n a (λ u. f u ⊗ x u) (λ u. g u ⊗ x u))) rf)
      (solve 𝓡 (∑ n (λ u. f u ⊗ x u) ∷ a ∷ ∑ n (λ u. g u ⊗ x u) ∷ f n ∷ g n ∷ []) (v0 :+ v1 :* v2 :- (v3 :+ v1 :* v4)) ((v0 :- v3) :+ v1 :* (v2 :- v4)) refl)

  val_sum : (n : ℕ) (x : ℕ → El) (h : ℕ) (w : ℕ → El) (b : ℕ → ℕ → El) → val 𝓡 n x (λ u. ∑ h (λ i. w i ⊗ b i u)) ≈ ∑ h (λ i. w i ⊗ val 𝓡 n x (b i))
  val_sum n x zero w b = tr (add_cong (sum_zero n (λ u c. zero_mul 𝓡 (x u))) (neg_zero 𝓡)) (add_zero 𝟘)
  val_sum n x (suc h) w b = tr (val_lin n x (w h) (λ u. ∑ h (λ i. w i ⊗ b i u)) (b h)) (add_cong (val_sum n x h w b) rf)

  -- the value of a combination of lines is that combination of their values
  pub val_comb : (n : ℕ) (x : ℕ → El) (h : ℕ) (w : ℕ → El) (b : ℕ → ℕ → El) (l : ℕ → El) →
      ((u : ℕ) → u < suc n → l u ≈ ∑ h (λ i. w i ⊗ b i u)) → val 𝓡 n x l ≈ ∑ h (λ i. w i ⊗ val 𝓡 n x (b i))
  val_comb n x h w b l e = tr (val_cong n x e) (val_sum n x h w b)
