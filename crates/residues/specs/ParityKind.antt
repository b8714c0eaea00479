-- The remainders by 2.
use Rattle.std.specs.Prelude.{◌≡◌, ℕ, zero, suc, ◌*◌, ◌%◌, ◌<◌, true, ℤ, refl}
use Rattle.std.proofs.Common.{arith, lit<}
use Rattle.exact.specs.Fraction.{Fraction}
use Rattle.exact.specs.Kind.{Kind, Lawful}
use Rattle.algebra.specs.Prime.{Admits, Alike, Multiple}
use Rattle.residues.specs.declared.parity.Parity.{Parity}
use Rattle.residues.specs.declared.parity.Parity.TheVariants.{Shut, Open}
use Rattle.residues.specs.Rest.{rest, reciprocal}
use Rattle.residues.specs.Remainders.{each_reciprocal, rest_below}
use Rattle.residues.specs.Residue.{residue_kind}
use Rattle.residues.specs.ResidueLaws.{Residues, residue_lawful}

abbrev pub bit : Parity → ℕ
bit Shut = 0
bit Open = 1

abbrev pub of_bit : ℕ → Parity
of_bit zero = Shut
of_bit (suc n) = Open

abbrev pub turned_over : Parity → Parity
turned_over Shut = Open
turned_over Open = Shut

unfoldable pub parity : ℤ → Parity
parity z = of_bit (rest 2 z)

right : (n : ℕ) → 0 < n → n < 2 → (n * reciprocal 2 n) % 2 ≡ 1
unfolding reciprocal
right n h l = each_reciprocal 2 1 tt n h (omega arith)

bit_below : (v : Parity) → bit v < 2
bit_below Shut = omega arith
bit_below Open = omega arith

bit_back : (n : ℕ) → n < 2 → bit (of_bit n) ≡ n
bit_back zero h = refl
bit_back (suc n) h = omega arith

same_bit : (v w : Parity) → bit v ≡ bit w → v ≡ w
same_bit Shut Shut e = refl
same_bit Shut Open e = absurd (omega arith)
same_bit Open Shut e = absurd (omega arith)
same_bit Open Open e = refl

pub parities : Residues 2 bit parity
unfolding parity
parities = record { large = lit< tt; right = right; below = bit_below; made = λ z. bit_back (rest 2 z) (rest_below 2 (lit< tt) z); once = same_bit }

abbrev pub parity_kind : Kind Parity
parity_kind = residue_kind 2 bit parity

abbrev pub parity_admits : Fraction → Type 0
parity_admits = Admits (Multiple 2)

abbrev pub parity_alike : Fraction → Fraction → Type 0
parity_alike = Alike (Multiple 2)

pub parity_laws : Lawful parity_kind parity_admits parity_alike true
parity_laws = residue_lawful parities
