-- The kind of the remainders by p, for any type of values: `number` is the remainder that a value stands for, `make` the value of an integer.
use Rattle.std.specs.Prelude.{ℕ, cond, ℤ, pos, ◌*ℤ◌, Some, None, Option, ◌==◌}
use Rattle.exact.specs.Fraction.{Fraction, whole}
use Rattle.exact.specs.Kind.{Kind}
use Rattle.residues.specs.Rest.{rest, reciprocal}

module _ (p : ℕ) {V : Type 0} (number : V → ℕ) (make : ℤ → V) where
  -- a/b is a times the reciprocal of b; there is none where p divides b
  unfoldable pub residue_of : Fraction → Option V
  residue_of x = cond (rest p x.bottom == 0) None (Some (make (x.top *ℤ pos (reciprocal p (rest p x.bottom)))))

  abbrev pub residue_kind : Kind V
  residue_kind = record { tells = λ v. whole (pos (number v)); value_of = residue_of; is_zero = λ v. (number v == 0); nil = make (pos 0) }
