use Rattle.std.proofs.Common.{refl}
use Rattle.fractions.specs.Gcd.{gcd_within, gcd}
use Rattle.fractions.specs.Value.{within, made, over, value_of}
use Rattle.fractions.proofs.example.lowest_terms_example.Goals as goal

pub returns : goal.returns
unfolding value_of over made within gcd gcd_within
returns c = ((_, refl, refl, refl), refl)
