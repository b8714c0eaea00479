use Rattle.std.proofs.Common.{◌≡◌, ℕ, ◌<◌, true, false, cond, eqb, length, rules}
use Rattle.std.proofs.iter.runs.Made.{chains}
use Rattle.rows.specs.Row.{at}
use Rattle.sheet.proofs.Rows.{alone_is}
use Rattle.sheet.proofs.reading.is_alone.Goals as goal

pub returns : goal.returns
returns g c =
    let K = g.K.Number.kind in
    let row = c.args.row.now in
    let u = c.args.u in
    let all : c.all.result ≡ true → (k : ℕ) → k < length row → cond (eqb k u) true (K.is_zero (at K row k)) ≡ true = λ t k h. search (rules, chains) in
    let some : c.all.result ≡ false → (k : ℕ) × (k < length row) × (cond (eqb k u) true (K.is_zero (at K row k)) ≡ false) = λ f. search (rules, chains) in
    alone_is K u (length row) row c.all.result all some
