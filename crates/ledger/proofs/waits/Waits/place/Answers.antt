use Rattle.std.proofs.Common.{◌≡◌, ◌≢◌, ◌≤◌, ◌++◌, [], ◌∷◌, IsOk, sym, rules}
use Rattle.std.proofs.lemmas.Bool.{true≢false}
use Rattle.std.proofs.lemmas.List.Elements.{All-push}
use Rattle.std.proofs.lemmas.List.Quantifiers.{all_pairs_push}
use Rattle.bounded.specs.Items.{items}
use Rattle.ledger.specs.declared.wait.Wait.{Wait}
use Rattle.ledger.specs.Waiting.{waiting}
use Rattle.ledger.proofs.Standing.{none_stands}
use Rattle.ledger.proofs.Room.{room}
use Rattle.ledger.proofs.waits.Waits.place.Goals as goal

pub invariant_of-self : goal.invariant_of-self
unfolding waiting
invariant_of-self c =
    let w = c.args.self.now in
    let q = c.args.q in
    let ws = items w.waits in
    let x : Wait = record { set_point = q } in
    let range : (1 ≤ q) × (q ≤ 48) = search rules in
    let new = none_stands q ws (sym c.if-stands.ensures) in
    let ok : IsOk c.push.result = c.push.ensures.room.1 (room ws q w.points w.apart range.0 range.1 new) in
    let more : items c.push.new.self ≡ ws ++ x ∷ [] = search rules in
    record {
      points = rw more (All-push (λ y. (1 ≤ y.set_point) × (y.set_point ≤ 48)) ws x w.points range);
      apart = rw more (all_pairs_push (λ v y. v.set_point ≢ y.set_point) ws x w.apart new);
    }

pub returns-in_err-push : goal.returns-in_err-push
unfolding waiting
returns-in_err-push c =
    let w = c.args.self.now in
    let q = c.args.q in
    let ws = items w.waits in
    let range : (1 ≤ q) × (q ≤ 48) = search rules in
    let new = none_stands q ws (sym c.if-stands.ensures) in
    absurd (true≢false (sym (c.in_err-push.ensures.room.1 (room ws q w.points w.apart range.0 range.1 new))))
