use Rattle.std.proofs.Common.{rules, ◌≡◌, ℕ, ◌+◌, ◌<◌, ◌≤◌, length, get_or, pos, nat_abs, None, Some, option_map, sym, ◌∙◌}
use Rattle.elimination.specs.Refusals.{limit}
use Rattle.elimination.proofs.Limits.{first_is}
use Rattle.elimination.proofs.refusals.first_outside.Goals as goal

pub returns-clause-answer : goal.returns-clause-answer
returns-clause-answer c =
    let n = c.args.n in
    let line = c.args.line.now in
    let o = c.position.result in
    let none : o ≡ None → (u : ℕ) → u < length line → nat_abs (get_or line u (pos 0)) ≤ limit n u = search rules in
    let inside : (k : ℕ) → o ≡ Some k → k < length line = search rules in
    let over : (k : ℕ) → o ≡ Some k → limit n k < nat_abs (get_or line k (pos 0)) = search rules in
    let before : (k : ℕ) → o ≡ Some k → (u : ℕ) → u < k → nat_abs (get_or line u (pos 0)) ≤ limit n u = search rules in
    let moved : c.map.result ≡ option_map (λ i. i + 1) o = search rules in
    moved ∙ sym (first_is n line o none (λ k e. (inside k e, over k e, before k e)))
