use Rattle.std.proofs.Common.{None, refl, ◌∙◌}
use Rattle.placing.proofs.Digits.{apart, beyond, counted, digit}
use Rattle.placing.proofs.column.column_of.Goals as goal

pub returns-in_err-first_of : goal.returns-in_err-first_of
returns-in_err-first_of c =
    let a = c.args in
    let ne = apart _ a.position a.n c.checked_sub.ensures c.if-eq.ensures in
    let e = c.in_err-first_of.ensures in
    record {
      is = c.from_residual.ensures ∙ beyond a.line.now a.n a.position c.terms.result.now None ne c.terms.ensures e;
      counted = rw c.from_residual.ensures tt;
      digit = λ h s. digit a.line.now a.n a.position c.terms.result.now None ne c.terms.ensures e h refl;
    }

pub returns : goal.returns
returns c =
    let a = c.args in
    let ne = apart _ a.position a.n c.checked_sub.ensures c.if-eq.ensures in
    let e = c.in_ok-first_of.ensures in
    record {
      is = beyond a.line.now a.n a.position c.terms.result.now _ ne c.terms.ensures e;
      counted = counted a.line.now a.n a.position c.terms.result.now _ ne c.terms.ensures e;
      digit = digit a.line.now a.n a.position c.terms.result.now _ ne c.terms.ensures e;
    }
