-- What the functions of a kind answer.
use Rattle.std.specs.Prelude.{cond, ℤ, Some, None, Ok, Err, Option, Result}
use Rattle.exact.specs.declared.fault.NumberFault.{NumberFault}
use Rattle.exact.specs.declared.fault.NumberFault.TheVariants.{Beyond, ByZero}
use Rattle.exact.specs.Fraction.{whole, less_times, ratio}
use Rattle.exact.specs.Kind.{Kind}

-- the value of a number where it is held, else "beyond the numbers"
abbrev pub held : {V : Type 0} → Option V → Result V NumberFault
held (Some v) = Ok v
held None = Err Beyond

unfoldable pub whole_of : {V : Type 0} → Kind V → ℤ → Result V NumberFault
whole_of K a = held (K.value_of (whole a))

-- a - b c
unfoldable pub less_of : {V : Type 0} → Kind V → V → V → V → Result V NumberFault
less_of K a b c = held (K.value_of (less_times (K.tells a) (K.tells b) (K.tells c)))

-- a / b; that b is 0 comes before anything else
unfoldable pub over_of : {V : Type 0} → Kind V → V → V → Result V NumberFault
over_of K a b = cond (K.is_zero b) (Err ByZero) (held (K.value_of (ratio (K.tells a) (K.tells b))))

abbrev pub or_nil : {V : Type 0} → Kind V → Result V NumberFault → V
or_nil K (Ok v) = v
or_nil K (Err f) = K.nil

-- the value of a whole number, 0 where it is not held
unfoldable pub value_of : {V : Type 0} → Kind V → ℤ → V
value_of K a = or_nil K (whole_of K a)
