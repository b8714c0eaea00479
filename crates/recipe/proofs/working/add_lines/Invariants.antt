use Rattle.std.proofs.Common.{length, vec_items}
use Rattle.cutting.specs.Taken.{named}
use Rattle.sheet.specs.Contents.{contents}
use Rattle.recipe.specs.Labels.{Counted}
use Rattle.recipe.proofs.Lining.{Reached}
use Rattle.recipe.proofs.working.add_lines.Given as goal

abbrev pub invariant-loop-line : goal.invariant-loop-line
invariant-loop-line g l = record {
  callable : (goal.iterator-loop-line g).can_next l.line-iterator;
  finite : (goal.iterator-loop-line g).is_finite l.line-iterator;
  counted : Counted l.line-iterator;
  reached : Reached g.K.Number.kind (length l.initial.records) (contents l.initial.sheet) (named l.fn.lines) (vec_items l.initial.out) (contents l.sheet) (named l.line-iterator) (vec_items l.out);
}
