use Rattle.std.proofs.Common.{◌≡◌, length, take, sym, ap, ◌∙◌, subst, arith, length-take-le}
use Rattle.rows.specs.Row.{highest}
use Rattle.elimination.specs.Stating.{Found}
use Rattle.elimination.proofs.Opening.{highest_take, subject_is}
use Rattle.elimination.proofs.working.subject_of.Goals as goal

pub returns-then-held : goal.returns-then-held
returns-then-held g c =
    let K = g.K.Number.kind in
    let n = c.args.held.n in
    let w = c.args.w.now in
    let size : length (take n w) ≡ n = length-take-le n w (let e = c.requires.width in omega arith) in
    let is = subject_is K n (length c.args.held.entries.now) w c.if-held.true in
    let e : c.highest_nonzero.result ≡ highest K n w = c.highest_nonzero.ensures ∙ ap (λ i. highest K i (take n w)) size ∙ highest_take K n n w (omega arith) in
    record { answer = e ∙ is.0; found = subst (Found n (length c.args.held.entries.now)) (sym e) is.1 }
