use Rattle.std.proofs.Common.{pos, nat_abs, ap, ◌∙◌, w32}
use Rattle.std.proofs.lemmas.Int.{to_z-of_z}
use Rattle.std.specs.Int.{int_rem_euclid}
use Rattle.residues.specs.IndexKind.{index, same_teeth}
use Rattle.residues.specs.Remainders.{rem_euclid_rest}
use Rattle.residues.proofs.index.number.IndexFromI32.from.Goals as goal

pub returns : goal.returns
unfolding index
returns c =
    same_teeth _ (index c.args.z)
    (ap nat_abs (to_z-of_z w32 c.rem_euclid.result (record { sfits = c.rem_euclid.type_inv }) ∙ c.rem_euclid.ensures.value ∙ ap (λ z. int_rem_euclid z (pos 127)) (to_z-of_z w32 c.args.z c.ranges.z) ∙ rem_euclid_rest 127 c.args.z))
