use Rattle.algebra.specs.Prime.{Tested}
use Rattle.algebra.proofs.PrimeKind.{prime_laws}
use Rattle.algebra.proofs.prime_ideals_are_kinds.Goals as goal

pub returns : goal.returns
returns c Z p = prime_laws (Tested Z) p
