-- What a fraction is made as.
use Rattle.std.specs.Prelude.{cond, ℤ, Err, Result, ◌==◌, unsigned_abs}
use Rattle.exact.specs.declared.fault.NumberFault.{NumberFault}
use Rattle.exact.specs.declared.fault.NumberFault.TheVariants.{ByZero}
use Rattle.exact.specs.Answers.{held}
use Rattle.exact.specs.Fraction.{fraction}
use Rattle.fractions.specs.declared.ratio.Ratio.{Ratio}
use Rattle.fractions.specs.Value.{value_of}

-- that the lower number is 0 comes before anything else
abbrev pub new_of : ℤ → ℤ → Result Ratio NumberFault
new_of top bottom = cond (unsigned_abs bottom == 0) (Err ByZero) (held (value_of (fraction top bottom)))
