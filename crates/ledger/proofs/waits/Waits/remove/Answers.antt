use Rattle.std.proofs.Common.{◌≡◌, ◌≢◌, ◌≤◌, Some, filter, map, position, ap, ◌∙◌, rules}
use Rattle.std.proofs.lemmas.List.Elements.{All-filter}
use Rattle.std.proofs.lemmas.List.Kept.{AllPairs-filter}
use Rattle.bounded.specs.Items.{items}
use Rattle.ledger.specs.Waiting.{waiting}
use Rattle.ledger.proofs.Standing.{point, for_it, other, removed_is, without_is}
use Rattle.ledger.proofs.waits.Waits.remove.Goals as goal

pub invariant_of-self : goal.invariant_of-self
invariant_of-self c =
    let w = c.args.self.now in
    let found : position (for_it c.args.q) (items w.waits) ≡ Some c.in_ok-place.place = search rules in
    let left : items c.remove.new.self ≡ filter (other c.args.q) (items w.waits) = c.remove.ensures.rest ∙ removed_is c.args.q (items w.waits) c.in_ok-place.place found w.apart in
    record {
      points = rw left (All-filter (other c.args.q) (λ y. (1 ≤ y.set_point) × (y.set_point ≤ 48)) (items w.waits) w.points);
      apart = rw left (AllPairs-filter (λ v y. v.set_point ≢ y.set_point) (other c.args.q) (items w.waits) w.apart);
    }

pub returns-clause-after : goal.returns-clause-after
unfolding waiting
returns-clause-after c =
    let w = c.args.self.now in
    let found : position (for_it c.args.q) (items w.waits) ≡ Some c.in_ok-place.place = search rules in
    ap (map point) (c.remove.ensures.rest ∙ removed_is c.args.q (items w.waits) c.in_ok-place.place found w.apart) ∙ without_is c.args.q (items w.waits)
