-- The numbers of a line over n set points.
use Rattle.std.specs.Prelude.{ℕ, zero, suc, ◌+◌, Bool, cond, List, [], ◌∷◌, ◌++◌, ℤ, pos, neg_ℤ, ◌==◌}
use Rattle.reading.specs.declared.term.Term.{Term}
use Rattle.reading.specs.Form.{Meaning}

abbrev pub with_sign : Bool → ℕ → ℤ
with_sign negative size = cond negative (neg_ℤ (pos size)) (pos size)

-- the coefficient of set point q: that of its first term, 0 where it has none
abbrev pub coefficient : List Term → ℕ → ℤ
coefficient [] q = pos 0
coefficient (t ∷ ts) q = cond (t.number == q) (with_sign t.negative t.coefficient) (coefficient ts q)

-- the coefficients of n set points, from q on
abbrev pub coefficients : List Term → ℕ → ℕ → List ℤ
coefficients ts q zero = []
coefficients ts q (suc n) = coefficient ts q ∷ coefficients ts (q + 1) n

-- the n coefficients and the constant
abbrev pub numbers : Meaning → ℕ → List ℤ
numbers m n = coefficients m.terms 1 n ++ (with_sign m.negative m.constant ∷ [])
