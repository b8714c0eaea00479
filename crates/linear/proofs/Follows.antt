-- What is left of a line decides: nothing, and it follows from the held lines; only a constant, and it contradicts them; a set point,
-- and it does neither.
use Rattle.std.proofs.Common.{◌≡◌, ℕ, suc, ◌<◌, [], ◌∷◌, sym, refl, subst, arith}
use native.Mathlib.Decide.{ℕ_discrete}
use Rattle.algebra.specs.Ring.{Ring}
use Rattle.linear.specs.Linear.{sum, δ, val, Solves, Solved}
use Rattle.algebra.proofs.Solver.{:0, :1, ◌:+◌, ◌:-◌, ◌:*◌, :neg, solve, mul_zero, zero_mul, neg_zero}
use Rattle.linear.proofs.Sums.{v0, v1, v2, v3, minus, sum_cong, sum_zero, sum_pick, δ_comm, val_cong, val_lin}
use Rattle.linear.proofs.Solutions.{same_solutions, comb_zero, moved, moved_val, none, free_solves}
use Rattle.linear.proofs.Step.{left, left_subject}

module _ (𝓡 : Ring) where
  infix 4 ◌≈◌
  infixl 6 ◌⊕◌
  infixl 7 ◌⊗◌
  open 𝓡 use {El, ◌≈◌, 𝟘, 𝟙, ◌⊕◌, ◌⊗◌, neg, rf, sy, tr, add_cong, mul_cong, neg_cong, add_zero, mul_one}

  -- no line yet
  pub start : (n cap : ℕ) (a r : ℕ → ℕ → El) (s : ℕ → ℕ) → Solved 𝓡 n cap 0 a r s
  start n cap a r s = record {
    subject = λ k b. absurd (omega arith);
    room = omega arith;
    own = λ j k b c. absurd (omega arith);
    made = λ j u b c. absurd (omega arith);
    spans = λ i u b c. absurd (omega arith);
    unit = λ i l b c. absurd (omega arith);
    blank = λ j l b c d. absurd (omega arith);
  }

  module _ (n cap h : ℕ) (a r : ℕ → ℕ → El) (s : ℕ → ℕ) (𝓢 : Solved 𝓡 n cap h a r s) (l : ℕ → El) where
    abbrev V : (ℕ → El) → (ℕ → El) → El
    V = val 𝓡 n

    abbrev rest : ℕ → El
    rest = left 𝓡 n cap h a r s 𝓢 l

    -- at a solution of the held lines, what is left has the value of the line
    rest_val : (x : ℕ → El) → Solves 𝓡 n h x a → V x rest ≈ V x l
    rest_val x z = tr (val_cong 𝓡 n x (λ u c. add_cong rf (solve 𝓡 (sum 𝓡 h (λ j. l (s j) ⊗ r j u) ∷ []) (:neg v0) (:neg :1 :* v0) refl)))
        (tr (val_lin 𝓡 n x (neg 𝟙) l (λ u. sum 𝓡 h (λ j. l (s j) ⊗ r j u)))
        (tr (add_cong rf (tr (mul_cong rf (comb_zero 𝓡 n cap h a r s 𝓢 x (λ j. l (s j)) r (λ u. sum 𝓡 h (λ j. l (s j) ⊗ r j u)) (λ u c. rf) ((same_solutions 𝓡 n cap h a r s 𝓢 x).0 z)))
        (mul_zero 𝓡 (neg 𝟙)))) (add_zero (V x l))))

    -- a line of which nothing is left follows
    pub follows : ((u : ℕ) → u < suc n → rest u ≈ 𝟘) → (x : ℕ → El) → Solves 𝓡 n h x a → V x l ≈ 𝟘
    follows z x w = tr (sy (rest_val x w)) (tr (val_cong 𝓡 n x {g = λ u. 𝟘} z) (tr (add_cong (sum_zero 𝓡 n (λ u c. zero_mul 𝓡 (x u))) (neg_zero 𝓡)) (add_zero 𝟘)))

    abbrev nil : ℕ → El
    nil = none 𝓡 n cap h a r s 𝓢

    -- values are made a solution by a change of subjects alone, so what is left keeps its value
    rest_moved : (y : ℕ → El) → V (moved 𝓡 n cap h a r s 𝓢 y nil) rest ≈ V y rest
    rest_moved y = tr (moved_val 𝓡 n cap h a r s 𝓢 y nil rest)
        (tr (add_cong rf (sum_zero 𝓡 h (λ k c. tr (mul_cong (left_subject 𝓡 n cap h a r s 𝓢 l k c) rf) (zero_mul 𝓡 (nil k ⊕ neg (V y (r k))))))) (add_zero (V y rest)))

    -- if the line follows, what is left of it is 0 at all values
    rest_none : ((x : ℕ → El) → Solves 𝓡 n h x a → V x l ≈ 𝟘) → (y : ℕ → El) → V y rest ≈ 𝟘
    rest_none f y = tr (sy (rest_moved y))
        (tr (rest_val (moved 𝓡 n cap h a r s 𝓢 y nil) (free_solves 𝓡 n cap h a r s 𝓢 y)) (f (moved 𝓡 n cap h a r s 𝓢 y nil) (free_solves 𝓡 n cap h a r s 𝓢 y)))

    -- so nothing is left of a line that follows: its left side is 0 where all set points are 0, and where one is 1
    pub implied : ((x : ℕ → El) → Solves 𝓡 n h x a → V x l ≈ 𝟘) → (u : ℕ) → u < suc n → rest u ≈ 𝟘
    implied f u b = go (ℕ_discrete u n)
      where
        zeros : ℕ → El
        zeros w = 𝟘

        last : rest n ≈ 𝟘
        last = tr (solve 𝓡 (rest n ∷ []) v0 (:neg (:0 :- v0)) refl) (tr (neg_cong (tr (add_cong (sy (sum_zero 𝓡 n (λ w c. mul_zero 𝓡 (rest w)))) rf) (rest_none f zeros))) (neg_zero 𝓡))

        go : Dec (u ≡ n) → rest u ≈ 𝟘
        go (yes e) = subst (λ z. rest z ≈ 𝟘) (sym e) last
        go (no ne) = tr (minus 𝓡 (tr (add_cong (sy (sum_pick 𝓡 n u rest (λ w. δ 𝓡 w u) (omega arith) (λ w c. δ_comm 𝓡 w u))) rf) (rest_none f (λ w. δ 𝓡 w u)))) last

    -- where only a constant is left, a solution that meets the line makes it 0
    pub contradicts : ((u : ℕ) → u < n → rest u ≈ 𝟘) → (x : ℕ → El) → Solves 𝓡 n h x a → V x l ≈ 𝟘 → rest n ≈ 𝟘
    contradicts z x w e = tr (solve 𝓡 (rest n ∷ []) v0 (:neg (:0 :- v0)) refl)
        (tr (neg_cong (tr (add_cong (sy (sum_zero 𝓡 n (λ u c. tr (mul_cong (z u c) rf) (zero_mul 𝓡 (x u))))) rf) (tr (rest_val x w) e))) (neg_zero 𝓡))

    -- where a set point q is left, and p is the inverse of its number, solutions of the held lines give the line any value
    pub any_value : (q : ℕ) → q < n → (p : El) → rest q ⊗ p ≈ 𝟙 → (e : El) → (x : ℕ → El) × (Solves 𝓡 n h x a) × (V x l ≈ e)
    any_value q qn p inverse e = (x, free_solves 𝓡 n cap h a r s 𝓢 y, tr (sy (rest_val x (free_solves 𝓡 n cap h a r s 𝓢 y))) (tr (rest_moved y) (tr (add_cong at_q rf) value)))
      where
        t : El
        t = (rest n ⊕ e) ⊗ p

        -- t at q alone
        y : ℕ → El
        y u = t ⊗ δ 𝓡 u q

        x : ℕ → El
        x = moved 𝓡 n cap h a r s 𝓢 y nil

        at_q : sum 𝓡 n (λ u. rest u ⊗ (t ⊗ δ 𝓡 u q)) ≈ rest q ⊗ t
        at_q = tr (sum_cong 𝓡 n (λ u c. solve 𝓡 (rest u ∷ t ∷ δ 𝓡 u q ∷ []) (v0 :* (v1 :* v2)) (v0 :* v1 :* v2) refl))
            (sum_pick 𝓡 n q (λ u. rest u ⊗ t) (λ u. δ 𝓡 u q) qn (λ u c. δ_comm 𝓡 u q))

        value : rest q ⊗ t ⊕ neg (rest n) ≈ e
        value = tr (solve 𝓡 (rest q ∷ rest n ∷ e ∷ p ∷ []) (v0 :* ((v1 :+ v2) :* v3) :- v1) ((v1 :+ v2) :* (v0 :* v3) :- v1) refl)
            (tr (add_cong (tr (mul_cong rf inverse) (mul_one (rest n ⊕ e))) rf) (solve 𝓡 (rest n ∷ e ∷ []) (v0 :+ v1 :- v0) v1 refl))
