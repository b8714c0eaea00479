-- Remainders by p, and reciprocals.
use Rattle.std.specs.Prelude.{ℕ, ◌-◌, ◌%◌, ◌^◌, ℤ, pos, negsuc}

-- from 0 to p - 1
unfoldable pub rest : ℕ → ℤ → ℕ
rest p (pos a) = a % p
rest p (negsuc a) = p - 1 - a % p

-- the reciprocal of n modulo a prime p is a power; that of 0 is 0 but for p = 2
unfoldable pub reciprocal : ℕ → ℕ → ℕ
reciprocal p n = n ^ (p - 2) % p
