use Rattle.std.proofs.Common.{◌≡◌, ℤ, pos, sym, ap, ◌∙◌, arith, lit<, w32, SFits, to_z, of_z}
use Rattle.std.specs.Int.{int_rem_euclid}
use Rattle.std.proofs.lemmas.Int.{to_z-of_z}
use Rattle.residues.specs.Remainders.{rem_euclid_rest, rest_below}
use Rattle.residues.specs.Rest.{rest}
use Rattle.residues.proofs.Parities.{parity_is}
use Rattle.residues.proofs.parity.number.ParityFromI32.from.Goals as goal

bits : {a r : ℤ} → SFits w32 a → r ≡ int_rem_euclid (to_z w32 (of_z w32 a)) (pos 2) → rest 2 a ≡ of_z w32 r
bits {a} {r} f e = sym (ap (of_z w32) (e ∙ ap (λ z. int_rem_euclid z (pos 2)) (to_z-of_z w32 a f) ∙ rem_euclid_rest 2 a))

pub returns-then-rem_euclid-eq0 : goal.returns-then-rem_euclid-eq0
returns-then-rem_euclid-eq0 c = parity_is c.args.z 0 (bits c.ranges.z c.rem_euclid.ensures.value ∙ c.if-rem_euclid-eq0.true)

pub returns-else-rem_euclid-eq0 : goal.returns-else-rem_euclid-eq0
returns-else-rem_euclid-eq0 c =
    let small = rest_below 2 (lit< tt) c.args.z in
    let same = bits c.ranges.z c.rem_euclid.ensures.value in
    let nonzero : (rest 2 c.args.z ≡ 0 → ⊥) = λ e. c.if-rem_euclid-eq0.false (sym same ∙ e) in
    parity_is c.args.z 1 (omega arith)
