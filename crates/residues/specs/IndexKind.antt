-- The remainders by 127.
use Rattle.std.specs.Prelude.{◌≡◌, ℕ, ◌*◌, ◌%◌, ◌<◌, true, ℤ, refl}
use mathlib.Core.HLevel.{is_prop→PathP}
use Rattle.std.proofs.Common.{arith, lit<}
use Rattle.std.proofs.Math.Bridge.{le_prop}
use Rattle.exact.specs.Fraction.{Fraction}
use Rattle.exact.specs.Kind.{Kind, Lawful}
use Rattle.algebra.specs.Prime.{Admits, Alike, Multiple}
use Rattle.residues.specs.declared.index.Index.{Index}
use Rattle.residues.specs.Rest.{rest, reciprocal}
use Rattle.residues.specs.Remainders.{each_reciprocal, rest_below}
use Rattle.residues.specs.Residue.{residue_kind}
use Rattle.residues.specs.ResidueLaws.{Residues, residue_lawful}

abbrev pub teeth_of : Index → ℕ
teeth_of v = v.teeth

-- tested at once at all of 1 to 126
right : (n : ℕ) → 0 < n → n < 127 → (n * reciprocal 127 n) % 127 ≡ 1
unfolding reciprocal
right n h l = each_reciprocal 127 126 tt n h (omega arith)

unfoldable pub index : ℤ → Index
index z = record { teeth = rest 127 z; below = rest_below 127 (lit< tt) z }

pub same_teeth : (v w : Index) → v.teeth ≡ w.teeth → v ≡ w
same_teeth v w e = λ i. record { teeth = e i; below = is_prop→PathP (λ j. e j < 127) (λ j. le_prop) v.below w.below i }

pub indices : Residues 127 teeth_of index
unfolding index
indices = record { large = lit< tt; right = right; below = λ v. v.below; made = λ z. refl; once = same_teeth }

abbrev pub index_kind : Kind Index
index_kind = residue_kind 127 teeth_of index

abbrev pub index_admits : Fraction → Type 0
index_admits = Admits (Multiple 127)

abbrev pub index_alike : Fraction → Fraction → Type 0
index_alike = Alike (Multiple 127)

pub index_laws : Lawful index_kind index_admits index_alike true
index_laws = residue_lawful indices
