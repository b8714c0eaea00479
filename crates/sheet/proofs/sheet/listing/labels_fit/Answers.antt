use Rattle.std.proofs.Common.{leb, ap, ◌∙◌, arith}
use Rattle.sheet.proofs.Checking.{labels_high}
use Rattle.sheet.proofs.sheet.listing.labels_fit.Goals as goal

pub returns-then-first-ge1 : goal.returns-then-first-ge1
returns-then-first-ge1 c = ap (λ k. leb k 1000000) (omega arith) ∙ labels_high c.args.count c.args.first (λ e. omega arith) (omega arith)
