use Rattle.std.proofs.Common.{◌≡◌, ◌≤◌, length, false, arith, rules}
use Rattle.std.proofs.lemmas.Grind.{common_steps}
use Rattle.reading.specs.Terms.{at}
use Rattle.placing.specs.Terms.{Inside}
use Rattle.placing.proofs.Before.{parted, one_more}
use Rattle.placing.proofs.check.check_terms.Goals as goal

pub loop-k-preserved : goal.loop-k-preserved
loop-k-preserved c =
    let ts = c.args.terms.now in
    let k = c.loop-k.k in
    let i : Inside c.args.n (at ts k) = grind (arith, common_steps) in
    let l : k ≤ length ts = omega arith in
    let r : c.stood_before.result ≡ false = search rules in
    one_more ts c.args.n k c.loop-k.invariant (i, λ s. c.stood_before.ensures.absent r (parted ts k _ l s))
