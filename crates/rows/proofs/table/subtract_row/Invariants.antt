use Rattle.rows.specs.Row.{less_op}
use Rattle.rows.specs.Table.{row_of}
use Rattle.rows.proofs.Tables.{Reached}
use Rattle.rows.proofs.table.subtract_row.Given as goal

abbrev pub invariant-loop-i : goal.invariant-loop-i
invariant-loop-i g l = Reached (less_op g.K.Number.kind l.f (row_of l.width l.initial.table l.by)) l.width l.w l.initial.table l.i-counter l.table
