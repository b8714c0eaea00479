-- A commutative ring up to a relation.

pub record Ring : Type 1 where
  infix 4 ◌≈◌
  infixl 6 ◌⊕◌
  infixl 7 ◌⊗◌
  pub El : Type 0
  pub ◌≈◌ : El → El → Type 0
  pub 𝟘 : El
  pub 𝟙 : El
  pub ◌⊕◌ : El → El → El
  pub ◌⊗◌ : El → El → El
  pub neg : El → El
  pub rf : {a : El} → a ≈ a
  pub sy : {a b : El} → a ≈ b → b ≈ a
  pub tr : {a b c : El} → a ≈ b → b ≈ c → a ≈ c
  pub add_cong : {a b c d : El} → a ≈ b → c ≈ d → (a ⊕ c) ≈ (b ⊕ d)
  pub mul_cong : {a b c d : El} → a ≈ b → c ≈ d → (a ⊗ c) ≈ (b ⊗ d)
  pub neg_cong : {a b : El} → a ≈ b → neg a ≈ neg b
  pub add_assoc : (a b c : El) → ((a ⊕ b) ⊕ c) ≈ (a ⊕ (b ⊕ c))
  pub add_comm : (a b : El) → (a ⊕ b) ≈ (b ⊕ a)
  pub add_zero : (a : El) → (a ⊕ 𝟘) ≈ a
  pub add_neg : (a : El) → (a ⊕ neg a) ≈ 𝟘
  pub mul_assoc : (a b c : El) → ((a ⊗ b) ⊗ c) ≈ (a ⊗ (b ⊗ c))
  pub mul_comm : (a b : El) → (a ⊗ b) ≈ (b ⊗ a)
  pub mul_one : (a : El) → (a ⊗ 𝟙) ≈ a
  pub mul_add : (a b c : El) → (a ⊗ (b ⊕ c)) ≈ ((a ⊗ b) ⊕ (a ⊗ c))
