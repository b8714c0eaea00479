-- What numbers are written as, for examples.
use Rattle.std.specs.Prelude.{◌≡◌, ℕ, ℤ, Some, None}
use Rattle.exact.specs.Fraction.{fraction}
use Rattle.residues.specs.declared.index.Index.{Index}
use Rattle.residues.specs.declared.parity.Parity.{Parity}
use Rattle.residues.specs.IndexKind.{index_kind}
use Rattle.residues.specs.ParityKind.{parity_kind}

-- a/b has so many teeth
abbrev pub Teeth : ℤ → ℤ → ℕ → Type 0
Teeth a b n = (v : Index) × (index_kind.value_of (fraction a b) ≡ Some v) × (v.teeth ≡ n)

abbrev pub NoIndex : ℤ → ℤ → Type 0
NoIndex a b = index_kind.value_of (fraction a b) ≡ None

abbrev pub ParityIs : ℤ → ℤ → Parity → Type 0
ParityIs a b v = parity_kind.value_of (fraction a b) ≡ Some v
