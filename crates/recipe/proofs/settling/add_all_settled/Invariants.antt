use Rattle.std.proofs.Common.{◌≡◌, ◌+◌, ◌-◌, ◌≤◌, ◌++◌, vec_items}
use Rattle.sheet.specs.Contents.{contents}
use Rattle.recipe.specs.Run.{settled_rows}
use Rattle.recipe.proofs.settling.add_all_settled.Given as goal

abbrev pub invariant-loop-q : goal.invariant-loop-q
invariant-loop-q g l = record {
  within : l.q ≤ l.q-end + 1;
  rows : vec_items l.out ≡ vec_items l.initial.out ++ settled_rows g.K.Number.kind (contents l.sheet) (l.q - 1);
}
