use Rattle.std.proofs.Common.{◌∙◌, w32, SFits, rules}
use Rattle.std.proofs.lemmas.Int.{to_z-of_z}
use Rattle.placing.proofs.Firsts.{coefficient_first}
use Rattle.placing.proofs.Filling.{mapped, fair_at}
use Rattle.placing.proofs.fill.coefficient_of.Goals as goal

pub map_or-requires : goal.map_or-requires
map_or-requires c = λ x e l p f u. (fair_at c.args.terms.now c.args.set_point _ x c.requires c.first_of.ensures e).0

pub returns : goal.returns
returns c =
    let f : SFits w32 c.map_or.result = search rules in
    rw coefficient_first (rw (← c.first_of.ensures) (to_z-of_z w32 c.map_or.result f ∙ mapped c.first_of.result c.map_or.result _ c.map_or.ensures (λ x p. search rules)))
