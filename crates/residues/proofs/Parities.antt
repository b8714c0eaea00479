-- What the functions of parities answer, in each case.
use Rattle.std.proofs.Common.{◌≡◌, ℕ, ℤ, Ok, Err, sym, refl, ap}
use Rattle.exact.specs.declared.fault.NumberFault.TheVariants.{ByZero}
use Rattle.exact.specs.Answers.{less_of, over_of}
use Rattle.residues.specs.declared.parity.Parity.{Parity}
use Rattle.residues.specs.declared.parity.Parity.TheVariants.{Shut, Open}
use Rattle.residues.specs.ParityKind.{parity, of_bit, parity_kind, turned_over}
use Rattle.residues.specs.Residue.{residue_of}
use Rattle.residues.specs.Rest.{rest, reciprocal}

pub parity_is : (z : ℤ) (n : ℕ) → rest 2 z ≡ n → of_bit n ≡ parity z
unfolding parity
parity_is z n e = sym (ap of_bit e)

pub less_shut : (a c : Parity) → Ok a ≡ less_of parity_kind a Shut c
unfolding less_of residue_of rest reciprocal parity
less_shut Shut Shut = refl
less_shut Shut Open = refl
less_shut Open Shut = refl
less_shut Open Open = refl

pub less_by_shut : (a b : Parity) → Ok a ≡ less_of parity_kind a b Shut
unfolding less_of residue_of rest reciprocal parity
less_by_shut Shut Shut = refl
less_by_shut Shut Open = refl
less_by_shut Open Shut = refl
less_by_shut Open Open = refl

pub less_open_open : (a : Parity) → Ok (turned_over a) ≡ less_of parity_kind a Open Open
unfolding less_of residue_of rest reciprocal parity
less_open_open Shut = refl
less_open_open Open = refl

pub over_open : (a : Parity) → Ok a ≡ over_of parity_kind a Open
unfolding over_of residue_of rest reciprocal parity
over_open Shut = refl
over_open Open = refl

pub over_shut : (a : Parity) → Err ByZero ≡ over_of parity_kind a Shut
unfolding over_of
over_shut a = refl
