use Rattle.std.proofs.Common.{◌∙◌, rules, tests}
use Rattle.std.proofs.lemmas.Iterator.{YieldsList-from_slice}
use Rattle.std.proofs.lemmas.Iterator.Search.{any_from_yields_List}
use Rattle.bounded.specs.Items.{items}
use Rattle.ledger.specs.Waiting.{waiting}
use Rattle.ledger.proofs.Standing.{for_it, stands_any}
use Rattle.ledger.proofs.waits.Waits.stands.Goals as goal

pub returns : goal.returns
unfolding waiting
returns c =
    let ws = items c.args.self.now.waits in
    any_from_yields_List (for_it c.args.q) _ _ _ c.any.ensures.ran (YieldsList-from_slice ws cc) (λ x b q k. search (rules, tests))
    ∙ stands_any c.args.q ws
