use Rattle.std.proofs.Common.{arith}
use Rattle.residues.specs.Tables.{entry_is}
use Rattle.residues.proofs.index.reciprocals.entry.Goals as goal

pub returns : goal.returns
returns c = entry_is 127 c.args.table.now c.requires c.args.n.teeth (omega (arith, c.told-table, c.args.n.below))
