use Rattle.std.proofs.Common.{◌≡◌, take}
use Rattle.bounded.specs.Items.{items}
use Rattle.recipe.specs.Added.{entries_of}
use Rattle.recipe.proofs.adding.entries_of.Given as goal

abbrev pub invariant-loop-told : goal.invariant-loop-told
invariant-loop-told g l = items l.entries ≡ entries_of g.K.Number.kind (take l.told-index l.evidence)
