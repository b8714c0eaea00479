use Rattle.std.proofs.Common.{Some, ◌∙◌, sym, ap, arith}
use Rattle.std.proofs.lemmas.List.{get_or-take}
use Rattle.std.proofs.lemmas.Option.{slice_get_read}
use Rattle.bounded.specs.Items.{items}
use Rattle.bounded.proofs.Counts.{items_count}
use Rattle.bounded.proofs.Taken.{taken}
use Rattle.bounded.proofs.bounded.Bounded.remove.Goals as goal

pub returns-clause-value : goal.returns-clause-value
unfolding items
returns-clause-value g c =
    let b = c.args.self.now in
    let i = c.args.place in
    let x = c.index-self-place.result in
    let is = c.index-self-place.is in
    ap Some (sym is) ∙ sym (slice_get_read (items b) b.count i x (sym (items_count b)) (omega arith) (is ∙ sym (get_or-take b.count b.places i x (omega arith))))

pub returns-clause-rest : goal.returns-clause-rest
unfolding items
returns-clause-rest g c =
    let b = c.args.self.now in
    rw c.copy_within.ensures.after (taken b.places b.count c.args.place (omega arith) (omega (arith, b.within, b.whole)))
