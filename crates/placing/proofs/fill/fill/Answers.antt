use Rattle.std.proofs.Common.{◌+◌, ◌∷◌, ◌++◌, drop, ap, ◌∙◌, arith, w32, SFits, rules}
use Rattle.std.proofs.lemmas.Int.{to_z-of_z}
use Rattle.placing.specs.Numbers.{coefficients}
use Rattle.placing.proofs.Filling.{one_more, finished}
use Rattle.placing.proofs.fill.fill.Goals as goal

pub loop-i-preserved : goal.loop-i-preserved
loop-i-preserved c =
    let f : SFits w32 c.coefficient_of.result = search rules in
    one_more c.args.terms.now _ c.loop-i.x-items c.loop-i.i _ (omega arith) c.loop-i.invariant (to_z-of_z w32 c.coefficient_of.result f ∙ c.coefficient_of.ensures)

pub returns : goal.returns
returns c =
    finished c.args.terms.now c.args.out.now c.loop-i.x-items c.args.n c.loop-i.i _ (omega arith) c.loop-i-test.false (omega arith) c.loop-i.invariant
    ∙ ap (λ z. coefficients c.args.terms.now 1 c.args.n ++ (z ∷ drop (c.args.n + 1) c.args.out.now)) (to_z-of_z w32 c.args.constant c.ranges.constant)
