use Rattle.std.proofs.Common.{cond, Err, ap, ◌∙◌, ap₂}
use Rattle.exact.specs.declared.fault.NumberFault.TheVariants.{ByZero}
use Rattle.exact.specs.Answers.{held, over_of}
use Rattle.exact.specs.Fraction.{ratio}
use Rattle.fractions.specs.Making.{new_of}
use Rattle.fractions.specs.Value.{tells, value_of}
use Rattle.fractions.proofs.Made.{product_zero}
use Rattle.fractions.proofs.Wide.{num_is, den_is, times_is}
use Rattle.fractions.proofs.ratio.number.RatioNumber.quotient.Goals as goal

pub returns : goal.returns
unfolding over_of
returns c =
    let a = c.args.self in
    let b = c.args.b in
    let top = times_is tt (num_is a c.from.ensures) (den_is b c.from-2.ensures) in
    let bottom = times_is tt (den_is a c.from-3.ensures) (num_is b c.from-4.ensures) in
    c.new.ensures ∙ ap₂ new_of top.is bottom.is
    ∙ ap (λ t. cond t (Err ByZero) (held (value_of (ratio (tells a) (tells b))))) (product_zero a.den a.held.0 b.num)
