-- Each example is computed.
use Rattle.std.proofs.Common.{refl}
use Rattle.exact.specs.Answers.{whole_of, less_of, over_of, value_of}
use Rattle.rows.specs.Row.{less_op, over_op, less_row, over_row, cleared}
use Rattle.elimination.specs.Refusals.{refusal}
use Rattle.elimination.specs.Steps.{holding, steps}
use Rattle.sheet.specs.Reading.{settled_answer}
use Rattle.fractions.specs.Gcd.{gcd_within, gcd}
use Rattle.fractions.specs.Laws.{of_whole}
use Rattle.fractions.specs.Value.{within, made, over, value_of as fraction_value_of}
use Rattle.residues.specs.IndexKind.{index}
use Rattle.residues.specs.ParityKind.{parity}
use Rattle.residues.specs.Residue.{residue_of}
use Rattle.residues.specs.Rest.{rest, reciprocal}
use Rattle.cases.proofs.worked_examples.Goals as goal

pub returns : goal.returns
unfolding whole_of less_of over_of value_of less_op over_op less_row over_row cleared refusal holding steps settled_answer gcd_within gcd of_whole within made over fraction_value_of index parity residue_of rest reciprocal
returns c = record {
  clashes = refl;
  sum_says = refl;
  follows = refl;
  first_settled = refl;
  second_open = refl;
  solved = refl;
  first_half = refl;
  second_half = refl;
  odd_even = refl;
  half = refl;
  teeth = refl;
  alone = refl;
  within = refl;
  beyond = refl;
}
