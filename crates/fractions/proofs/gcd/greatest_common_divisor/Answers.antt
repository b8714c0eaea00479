use Rattle.std.proofs.Common.{◌≡◌, sym, ap, ◌∙◌, arith}
use Rattle.fractions.specs.Gcd.{gcd}
use Rattle.fractions.specs.Divides.{gcd_step, gcd_zero}
use Rattle.fractions.proofs.gcd.greatest_common_divisor.Goals as goal

pub loop-y-preserved : goal.loop-y-preserved
loop-y-preserved c = gcd_step c.loop-y.x c.loop-y.y (omega arith) ∙ c.loop-y.invariant

pub returns : goal.returns
returns c =
    let done : c.loop-y.y ≡ 0 = omega arith in
    sym (gcd_zero c.loop-y.x) ∙ ap (gcd c.loop-y.x) (sym done) ∙ c.loop-y.invariant
