use Rattle.std.proofs.Common.{refl, sym, subst, rules}
use Rattle.std.proofs.lemmas.List.{length-take-le}
use Rattle.std.specs.Result.{IsOk}
use Rattle.recipe.proofs.Output.{within, added}
use Rattle.recipe.proofs.adding.add_row.Goals as goal

pub unwrap-end-requires : goal.unwrap-end-requires
unwrap-end-requires g c = subst IsOk (sym (c.requires.1.1 c.write.result c.write.new.arg2 (search rules)).0) refl

pub slice_bounds-row-end : goal.slice_bounds-row-end
slice_bounds-row-end g c = within _ _ _ _ (c.requires.1.1 c.write.result c.write.new.arg2 (search rules)) c.unwrap-end.ensures

pub slice_bounds-extend_from_slice-end : goal.slice_bounds-extend_from_slice-end
slice_bounds-extend_from_slice-end g c = sym (length-take-le _ _ (within _ _ _ _ (c.requires.1.1 c.write.result c.write.new.arg2 (search rules)) c.unwrap-end.ensures))

pub returns : goal.returns
returns g c = added _ _ _ _ (c.requires.1.1 c.write.result c.write.new.arg2 (search rules)) c.unwrap-end.ensures _ _ _ c.extend_from_slice.ensures.items
