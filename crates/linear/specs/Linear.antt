-- Lines, rows and solutions over a ring up to a relation, for proofs: Lines and Solved say the same of fractions. A line or a row
-- is a function of the column: columns below n are the set points, column n is the constant, column n + 1 + i is the multiplier i.
use Rattle.std.specs.Prelude.{ℕ, zero, suc, ◌+◌, ◌<◌, ◌≤◌, cond, ◌==◌}
use Rattle.algebra.specs.Ring.{Ring}

module _ (𝓡 : Ring) where
  infix 4 ◌≈◌
  infixl 6 ◌⊕◌
  infixl 7 ◌⊗◌
  open 𝓡 use {El, ◌≈◌, 𝟘, 𝟙, ◌⊕◌, ◌⊗◌, neg}

  -- f 0 + .. + f (n - 1)
  abbrev pub sum : ℕ → (ℕ → El) → El
  sum zero f = 𝟘
  sum (suc n) f = sum n f ⊕ f n

  abbrev pub δ : ℕ → ℕ → El
  δ i j = cond (i == j) 𝟙 𝟘

  -- the left side less the right side of the line l, at the values x
  abbrev pub val : ℕ → (ℕ → El) → (ℕ → El) → El
  val n x l = sum n (λ u. l u ⊗ x u) ⊕ neg (l n)

  abbrev pub Solves : ℕ → ℕ → (ℕ → El) → (ℕ → ℕ → El) → Type 0
  Solves n h x a = (i : ℕ) → i < h → val n x (a i) ≈ 𝟘

  -- h held lines a, their solved rows r, and the subjects s of the rows: as SolvedForm
  pub record Solved (n cap h : ℕ) (a r : ℕ → ℕ → El) (s : ℕ → ℕ) : Type 0 where
    pub subject : (k : ℕ) → k < h → s k < n
    pub room : h ≤ cap
    pub own : (j k : ℕ) → j < h → k < h → r j (s k) ≈ δ j k
    pub made : (j u : ℕ) → j < h → u < suc n → r j u ≈ sum h (λ i. r j (suc n + i) ⊗ a i u)
    pub spans : (i u : ℕ) → i < h → u < suc n + cap → a i u ≈ sum h (λ k. a i (s k) ⊗ r k u)
    pub unit : (i l : ℕ) → i < h → l < cap → a i (suc n + l) ≈ δ i l
    pub blank : (j l : ℕ) → j < h → h ≤ l → l < cap → r j (suc n + l) ≈ 𝟘
