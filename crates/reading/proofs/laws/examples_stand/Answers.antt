use Rattle.std.proofs.Common.{[], codes, refl, arith}
use Rattle.reading.specs.declared.stage.Stage.TheVariants.{Opening}
use Rattle.reading.specs.Examples.{nine}
use Rattle.reading.proofs.Exact.{sound}
use Rattle.reading.proofs.Stops.{reads}
use Rattle.reading.proofs.laws.examples_stand.Goals as goal

pub returns : goal.returns
returns c = record {
  line = sound nine (codes "2q1 + q2 + q3 = 9") Opening 1 [] refl;
  space_after_q = reads (codes "q 1=0") (omega arith);
  breaks_off = reads (codes "q1 +") (omega arith);
  eight_digits = reads (codes "12345678q1=0") (omega arith);
}
