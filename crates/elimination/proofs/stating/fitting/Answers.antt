use Rattle.std.proofs.Common.{◌≤◌, sym, ◌∙◌, subst}
use Rattle.ledger.specs.Listed.{listed}
use Rattle.elimination.specs.Held.{needed, used}
use Rattle.elimination.proofs.Shown.{shown}
use Rattle.elimination.proofs.stating.fitting.Goals as goal

pub returns-then-n-have : goal.returns-then-n-have
returns-then-n-have c =
    let l = listed c.args.ledger.now in
    let n = c.set_points-n.ensures in
    let es = c.entries-entries.ensures in
    let s = shown l c.args.have (subst (λ k. needed k ≤ c.args.have) n c.if-n-have.true) in
    record {
      size = n ∙ sym s.0;
      entries = es ∙ sym s.1;
      room = subst (λ k. used k ≤ c.args.have) (sym n) s.2;
    }
