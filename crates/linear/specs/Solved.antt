-- The solved form of held lines. A line or a row is a function of the column: columns below n are the set points, column n is the
-- constant, and column n + 1 + i is the multiplier of the held line i.
use Rattle.std.specs.Prelude.{ℕ, suc, ◌+◌, ◌-◌, ◌<◌, ◌≤◌, cond, List, length, pos, ◌==◌, nat_lt}
use Rattle.exact.specs.Fraction.{Fraction, whole, plus, times, opposite}
use Rattle.linear.specs.Lines.{Line, entry, line, total}

abbrev pub one_or_none : ℕ → ℕ → Fraction
one_or_none i j = cond (i == j) (whole (pos 1)) (whole (pos 0))

-- h held lines a, their solved rows r, and the subjects s of the rows, with cap multiplier columns
pub record SolvedForm (alike : Fraction → Fraction → Type 0) (n cap h : ℕ) (a r : ℕ → ℕ → Fraction) (s : ℕ → ℕ) : Type 0 where
  pub subject : (k : ℕ) → k < h → s k < n
  pub room : h ≤ cap
  -- a row is 1 at its own subject and 0 at the others
  pub own : (j k : ℕ) → j < h → k < h → alike (r j (s k)) (one_or_none j k)
  -- a row is its multipliers times the held lines
  pub made : (j u : ℕ) → j < h → u < suc n → alike (r j u) (total h (λ i. times (r j (suc n + i)) (a i u)))
  -- a held line is its numbers at the subjects times the rows, in the multiplier columns too
  pub spans : (i u : ℕ) → i < h → u < suc n + cap → alike (a i u) (total h (λ k. times (a i (s k)) (r k u)))
  -- a held line has the multiplier 1 for itself
  pub unit : (i l : ℕ) → i < h → l < cap → alike (a i (suc n + l)) (one_or_none i l)
  -- a row has no multiplier for a line that is not held
  pub blank : (j l : ℕ) → j < h → h ≤ l → l < cap → alike (r j (suc n + l)) (whole (pos 0))

-- what is left of the line l when the rows r have been taken off at their subjects s
abbrev pub leftover : ℕ → (ℕ → ℕ → Fraction) → (ℕ → ℕ) → (ℕ → Fraction) → ℕ → Fraction
leftover h r s l u = plus (l u) (opposite (total h (λ j. times (l (s j)) (r j u))))

-- ---- lines of whole numbers
-- a line at the place i, with its multiplier columns
abbrev pub extended_by : (n : ℕ) → Line → (place : ℕ) → ℕ → Fraction
extended_by n l i u = cond (nat_lt u (n + 1)) (entry l u) (one_or_none i (u - (n + 1)))

abbrev pub extended_line : (n : ℕ) → List Line → ℕ → ℕ → Fraction
extended_line n ls i = extended_by n (line ls i) i

-- the rows r, of admitted fractions, are the solved form of the lines ls
pub record SolvedRows (admits : Fraction → Type 0) (alike : Fraction → Fraction → Type 0) (n cap : ℕ) (ls : List Line) (r : ℕ → ℕ → Fraction) (s : ℕ → ℕ) : Type 0 where
  pub admitted : (j u : ℕ) → admits (r j u)
  pub form : SolvedForm alike n cap (length ls) (extended_line n ls) r s
