use Rattle.std.proofs.Common.{◌≡◌, ◌<◌, take, length, length-take-le, ap, ◌∙◌, arith}
use Rattle.std.proofs.lemmas.List.{length-map}
use Rattle.bounded.specs.Items.{items}
use Rattle.recipe.specs.Added.{entry_of}
use Rattle.recipe.proofs.adding.entries_of.Goals as goal

pub unwrap-requires : goal.unwrap-requires
unwrap-requires g c =
    let i = c.loop-told.told-index in
    let told = c.args.evidence.now in
    let before = c.loop-told-test.true in
    let few = c.requires in
    let count : length (items c.loop-told.entries) ≡ i =
    ap length c.loop-told.invariant ∙ length-map (take i told) (entry_of g.K.Number.kind) ∙ length-take-le i told (omega (arith, before)) in
    c.push.ensures.room.1 (omega (arith, count, before, few))
