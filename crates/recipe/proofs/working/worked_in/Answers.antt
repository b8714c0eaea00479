use Rattle.std.proofs.Common.{length, vec_items, sym, ◌∙◌}
use Rattle.cutting.specs.Taken.{named}
use Rattle.sheet.specs.Contents.{contents}
use Rattle.recipe.proofs.Whole.{sheet_done}
use Rattle.recipe.proofs.working.worked_in.Goals as goal

pub returns : goal.returns
returns g c =
    sheet_done g.K.Number.kind c.args.n 18446744073709551615 c.unwrap-needed.result (length c.deref_mut.result.now) (length c.deref_mut-2.result.now) (named c.args.lines)
    (contents c.make-sheet.result) (contents c.add_lines.new.sheet) (vec_items c.new-out.result) (vec_items c.add_lines.new.out) (vec_items c.add_all_settled.new.out)
    (sym c.measure.ensures ∙ c.unwrap-needed.ensures) (c.deref_mut.ensures.len ∙ c.in_ok-memory.ensures.len) c.make-sheet.ensures.contents
    (c.deref_mut-2.ensures.len ∙ c.in_ok-records.ensures.len) c.new-out.ensures.items c.in_ok-add_lines.ensures c.in_ok-add_all_settled.ensures
