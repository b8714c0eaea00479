use Rattle.std.proofs.Common.{◌≡◌, ℕ, ◌+◌, ◌-◌, ◌≤◌, List, ◌++◌, length, take, drop, ℤ, ap, subst, ◌∙◌, inr, rules, arith, length-append}
use Rattle.std.proofs.lemmas.List.{length-drop, take_at}
use Rattle.elimination.specs.Stating.{records_after}
use Rattle.reading.specs.Reading.{meaning_of}
use Rattle.placing.specs.Numbers.{numbers}
use Rattle.placing.specs.Terms.{AllGood}
use Rattle.sheet.specs.Contents.{contents, verdict, stated, after}
use Rattle.recipe.specs.Run.{in_text}
use Rattle.recipe.proofs.stating.state_text.Goals as goal

-- the line is the numbers of the text
front : (xs ys d : List ℤ) (k : ℕ) → d ≡ xs ++ drop k ys → length d ≡ length ys → k ≤ length ys → take k d ≡ xs
front xs ys d k e l h =
    let r : length (drop k ys) ≡ length ys - k = length-drop k ys in
    let a : length d ≡ length xs + length (drop k ys) = ap length e ∙ length-append xs (drop k ys) in
    let n : length xs ≡ k = omega arith in
    ap (take k) e ∙ take_at xs (drop k ys) k n

pub returns : goal.returns
returns g c =
    let m = meaning_of c.in_ok-line.line in
    let n = c.set_points-n.result in
    let S = contents c.args.sheet.now in
    let x = c.state.ensures in
    let a = c.in_ok-line.ensures in
    let t : c.map_err.result ≡ in_text c.state.result m n = search rules in
    let e : take (n + 1) c.read_numbers.new.out ≡ numbers m n = front (numbers m n) _ c.read_numbers.new.out (n + 1) a.3 (omega arith) (omega arith) in
    let z : n ≡ S.n = c.set_points-n.ensures in
    let on = λ (v : List ℤ). verdict g.K.Number.kind S v c.args.label (length c.args.records.now) in
    let v : on (take (n + 1) c.read_numbers.new.out) ≡ on (numbers m S.n) = ap on (e ∙ ap (numbers m) z) in
    inr (record {
      meaning = m;
      reads = a.1;
      good = subst (AllGood m.terms) z a.2;
      answer = t ∙ ap (in_text c.state.result m) z ∙ ap (λ r. in_text r m S.n) (x.answer ∙ ap (stated S) v);
      leaves = x.contents ∙ ap (after S) v;
      records = x.records ∙ ap (λ w. records_after w c.args.records.now) v;
    })
