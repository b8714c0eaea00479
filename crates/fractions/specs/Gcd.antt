-- The greatest common divisor, by Euclid's way.
use Rattle.std.specs.Prelude.{ℕ, zero, suc, ◌%◌}

-- in so many steps at most; b + 1 always suffice, since b falls
unfoldable pub gcd_within : ℕ → ℕ → ℕ → ℕ
gcd_within zero a b = a
gcd_within (suc f) a zero = a
gcd_within (suc f) a (suc b) = gcd_within f (suc b) (a % suc b)

unfoldable pub gcd : ℕ → ℕ → ℕ
gcd a b = gcd_within (suc b) a b
