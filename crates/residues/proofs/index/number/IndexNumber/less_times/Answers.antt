use Rattle.std.proofs.Common.{Ok, sym, ap, ◌∙◌, arith}
use Rattle.exact.specs.Answers.{held, less_of}
use Rattle.residues.specs.IndexKind.{index, indices}
use Rattle.residues.specs.ResidueLaws.{less_made}
use Rattle.residues.proofs.Narrow.{difference_is}
use Rattle.residues.proofs.index.number.IndexNumber.less_times.Goals as goal

pub returns : goal.returns
unfolding less_of
returns c = ap Ok (c.from-4.ensures ∙ ap index (difference_is c.from-3.ensures c.from.ensures c.from-2.ensures (omega (arith, c.args.self.below)) (omega (arith, c.args.b.below)) (omega (arith, c.args.c.below)))) ∙ sym (ap held (less_made indices c.args.self c.args.b c.args.c))
