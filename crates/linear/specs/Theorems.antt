-- What the solved form of held lines says of their solutions. A set point q (1 .. n) has column q - 1.
use Rattle.std.specs.Prelude.{◌≡◌, ℕ, suc, ◌+◌, ◌<◌, ◌≤◌, Bool, T, ◌↔◌, List, [], ◌∷◌, ◌++◌, length, pos, ◌≢◌}
use Rattle.exact.specs.Fraction.{Fraction, whole, plus, times, less_times, ratio}
use Rattle.linear.specs.Lines.{Line, entry, line, total, Satisfies, Values, Meets, Solves, Contradict, PartContradicts, Follows, Fixed, IsFixed}
use Rattle.linear.specs.Solved.{leftover, extended_by, SolvedRows}

-- column u of the held lines, each times its multiplier in w, together
abbrev pub combined : List Line → (w : ℕ → Fraction) → ℕ → Fraction
combined ls w u = total (length ls) (λ i. times (w i) (entry (line ls i) u))

-- ---- the held lines ls, with their rows r and subjects s
module _ (admits : Fraction → Type 0) (alike : Fraction → Fraction → Type 0) (n : ℕ) (ls : List Line) (r : ℕ → ℕ → Fraction) (s : ℕ → ℕ) where
  abbrev Zero : Fraction → Type 0
  Zero x = alike x (whole (pos 0))

  -- x meets every row
  abbrev pub SolvesRows : Values admits alike n → Type 0
  SolvesRows x = (j : ℕ) → j < length ls → Satisfies alike n x.number (r j)

  -- the row j is 0 in every set point but its subject
  abbrev pub Alone : (j : ℕ) → Type 0
  Alone j = (u : ℕ) → u < n → (u ≢ s j) → Zero (r j u)

  pub record FixedNumbers : Type 0 where
    pub fixed : (j : ℕ) → j < length ls → Alone j → Fixed admits alike n ls (s j + 1) (r j n)
    -- and no other set point has a fixed number
    pub no_other : (q : ℕ) → 1 ≤ q → IsFixed admits alike n ls q → (j : ℕ) × (j < length ls) × (s j + 1 ≡ q) × Alone j

  -- what is left of the line l
  abbrev pub left_of : Line → ℕ → Fraction
  left_of l = leftover (length ls) r s (extended_by n l (length ls))

  -- the multiplier of the held line i in what is left of l
  abbrev pub multiplier : Line → ℕ → Fraction
  multiplier l i = left_of l (suc n + i)

  -- only a constant is left, and it is not 0
  pub record OnlyConstant (l : Line) : Type 0 where
    pub gone : (u : ℕ) → u < n → Zero (left_of l u)
    pub not_zero : Zero (left_of l n) → ⊥

  pub record Evidence (l : Line) : Type 0 where
    pub contradict : Contradict admits alike n ls l
    -- the held lines of multiplier not 0 contradict l
    pub enough : (part : ℕ → Bool) → ((i : ℕ) → i < length ls → (Zero (multiplier l i) → ⊥) → T (part i)) → PartContradicts admits alike n ls part l
    -- and every part that contradicts it contains them
    pub needed : (part : ℕ → Bool) → PartContradicts admits alike n ls part l → (i : ℕ) → i < length ls → (Zero (multiplier l i) → ⊥) → T (part i)
    -- l and the held lines, each times its multiplier, come to 0 = k, where k is the constant that is left
    pub set_points : (u : ℕ) → u < n → Zero (plus (entry l u) (combined ls (multiplier l) u))
    pub constant : alike (plus (entry l n) (combined ls (multiplier l) n)) (left_of l n)

  pub record Judgement (l : Line) : Type 0 where
    -- l follows exactly when nothing is left of it
    pub follows : Follows admits alike n ls l ↔ ((u : ℕ) → u < suc n → Zero (left_of l u))
    -- where a set point is left, some solution meets l and some does not
    pub some_meets : (u : ℕ) → u < n → (Zero (left_of l u) → ⊥) → (x : Values admits alike n) × Solves admits alike n ls x × Meets admits alike n l x
    pub some_misses : (u : ℕ) → u < n → (Zero (left_of l u) → ⊥) → (x : Values admits alike n) × Solves admits alike n ls x × (Meets admits alike n l x → ⊥)

  -- l is held, solved for the set point of column q: the new rows are r', with the subjects s'
  pub record OneStep (cap : ℕ) (l : Line) (q : ℕ) (r' : ℕ → ℕ → Fraction) (s' : ℕ → ℕ) : Type 0 where
    pub admitted : (j u : ℕ) → admits (r' j u)
    -- its row is what is left of it, divided by the number at q
    pub row : (u : ℕ) → u < suc n + cap → alike (r' (length ls) u) (ratio (left_of l u) (left_of l q))
    pub subject : s' (length ls) ≡ q
    -- the other rows are cleared at q by that row
    pub rows : (j u : ℕ) → j < length ls → u < suc n + cap → alike (r' j u) (less_times (r j u) (r j q) (ratio (left_of l u) (left_of l q)))
    pub subjects : (j : ℕ) → j < length ls → s' j ≡ s j

-- ---- the theorems, for every size, all held lines, and all rows and subjects that are their solved form
module _ (admits : Fraction → Type 0) (alike : Fraction → Fraction → Type 0) where
  abbrev Always : ((n cap : ℕ) → List Line → (ℕ → ℕ → Fraction) → (ℕ → ℕ) → Type 0) → Type 0
  Always P = (n cap : ℕ) (ls : List Line) (r : ℕ → ℕ → Fraction) (s : ℕ → ℕ) → SolvedRows admits alike n cap ls r s → P n cap ls r s

  -- values solve the held lines exactly when they meet all the rows
  abbrev pub SameSolutions : Type 0
  SameSolutions = Always (λ n cap ls r s. (x : Values admits alike n) → Solves admits alike n ls x ↔ SolvesRows admits alike n ls r s x)

  -- any values of the set points that are no subjects extend to a solution
  abbrev pub SolutionsExist : Type 0
  SolutionsExist = Always (λ n cap ls r s. (y : Values admits alike n) →
      (x : Values admits alike n) × Solves admits alike n ls x × ((u : ℕ) → ((j : ℕ) → j < length ls → s j ≢ u) → alike (x.number u) (y.number u)))

  abbrev pub SolvedIsFixed : Type 0
  SolvedIsFixed = Always (λ n cap ls r s. FixedNumbers admits alike n ls r s)

  abbrev pub LeastEvidence : Type 0
  LeastEvidence = Always (λ n cap ls r s. (l : Line) → OnlyConstant admits alike n ls r s l → Evidence admits alike n ls r s l)

  abbrev pub FollowsOrStands : Type 0
  FollowsOrStands = Always (λ n cap ls r s. (l : Line) → Judgement admits alike n ls r s l)

  -- combinations of the held lines with the same coefficients have the same multipliers
  abbrev pub MultipliersUnique : Type 0
  MultipliersUnique = Always (λ n cap ls r s. (w v : ℕ → Fraction) → ((i : ℕ) → admits (w i)) → ((i : ℕ) → admits (v i)) →
      ((u : ℕ) → u < n → alike (combined ls w u) (combined ls v u)) → (i : ℕ) → i < length ls → alike (w i) (v i))

  pub record StepKeepsSolved : Type 0 where
    -- no line is held yet
    pub start : (n cap : ℕ) (r : ℕ → ℕ → Fraction) (s : ℕ → ℕ) → ((j u : ℕ) → admits (r j u)) → SolvedRows admits alike n cap [] r s
    -- one more line, of which the set point of column q is left
    pub step : Always (λ n cap ls r s. (l : Line) (q : ℕ) → q < n → (alike (left_of admits alike n ls r s l q) (whole (pos 0)) → ⊥) → length ls < cap →
        (r' : ℕ → ℕ → Fraction) (s' : ℕ → ℕ) → OneStep admits alike n ls r s cap l q r' s' → SolvedRows admits alike n cap (ls ++ l ∷ []) r' s')
    -- fewer lines than set points are then held, so n multiplier columns suffice
    pub space : Always (λ n cap ls r s. (l : Line) (q : ℕ) → q < n → (alike (left_of admits alike n ls r s l q) (whole (pos 0)) → ⊥) → length ls < n)
