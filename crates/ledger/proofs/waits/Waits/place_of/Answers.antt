use Rattle.std.proofs.Common.{◌≡◌, is_some, position, ap, ◌∙◌, rules, tests}
use Rattle.std.proofs.lemmas.Iterator.{YieldsList-from_slice}
use Rattle.std.proofs.lemmas.Iterator.Search.{position_from_yields_List}
use Rattle.bounded.specs.Items.{items}
use Rattle.ledger.specs.Waiting.{waiting}
use Rattle.ledger.proofs.Standing.{for_it, found_stands}
use Rattle.ledger.proofs.waits.Waits.place_of.Goals as goal

pub returns-clause-found : goal.returns-clause-found
unfolding waiting
returns-clause-found c =
    let ws = items c.args.self.now.waits in
    let is : c.position.result ≡ position (for_it c.args.q) ws =
    position_from_yields_List (for_it c.args.q) _ _ _ c.position.ensures.ran (YieldsList-from_slice ws cc) (λ x b q k. search (rules, tests)) in
    ap is_some is ∙ found_stands c.args.q ws
