use Rattle.std.proofs.Common.{◌≡◌, ℤ, ap, ◌∙◌, arith, w32, w64, SFits, to_z, of_z}
use Rattle.std.proofs.lemmas.Int.{ints}
use Rattle.exact.specs.Answers.{held, whole_of}
use Rattle.exact.specs.Fraction.{whole}
use Rattle.fractions.specs.Value.{value_of}
use Rattle.fractions.proofs.ratio.number.RatioNumber.whole.Goals as goal

wide : (z : ℤ) → SFits w32 z → to_z w64 (of_z w64 (to_z w32 (of_z w32 z))) ≡ z
wide z f = omega (arith, ints)

pub returns : goal.returns
unfolding whole_of
returns c = c.new.ensures ∙ ap (λ a. held (value_of (whole a))) (ap (λ a. to_z w64 (of_z w64 a)) c.from.ensures ∙ wide c.args.a c.ranges.a)
