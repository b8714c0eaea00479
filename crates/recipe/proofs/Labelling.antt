-- The labels of an input that is not too long.
use Rattle.std.proofs.Common.{◌≡◌, ℕ, suc, ◌+◌, ◌≤◌, Bool, true, false, cond, eqb, List, [], ◌∷◌, length, ap, arith}
use Rattle.std.specs.List.{AllByRecursion}
use Rattle.cutting.specs.declared.lines.Lines.{Lines}
use Rattle.cutting.specs.Lines.{lines, before, labelled}
use Rattle.cutting.specs.Taken.{left}
use Rattle.placing.specs.Input.{FirstTaken, other_lines, after}
use Rattle.recipe.specs.Labels.{Counted}

more_before : (b : ℕ) (ls : List (List ℕ)) → length (before b ls) ≤ length ls + 1
more_before b [] = omega arith
more_before b (l ∷ ls) = omega arith

few_cond : (e : Bool) (b : ℕ) (bs : List ℕ) → length (lines bs) ≤ length bs → length (cond e ([] ∷ lines bs) (before b (lines bs))) ≤ suc (length bs)
few_cond true b bs h = omega arith
few_cond false b bs h = omega (arith, more_before b (lines bs))

-- a text has no more lines than bytes
few_lines : (text : List ℕ) → length (lines text) ≤ length text
few_lines [] = omega arith
few_lines (b ∷ bs) = few_cond (eqb b 10) b bs (few_lines bs)

small : (k most : ℕ) (ls : List (List ℕ)) → k + length ls ≤ most + 1 → AllByRecursion (λ p. p.0 ≤ most) (labelled k ls)
small k most [] h = tt
small k most ([] ∷ ls) h = small (k + 1) most ls (omega arith)
small k most ((b ∷ l) ∷ ls) h = (omega arith, small (k + 1) most ls (omega arith))

others_few : (ls : List (List ℕ)) → after ls 0 + length (other_lines ls) ≤ length ls
others_few [] = omega arith
others_few (l ∷ ls) = omega arith

pub counted : (l l' : Lines) → l.label ≡ 0 → FirstTaken l l' → Counted l'
counted l l' z t =
    let a : after (left l) l.label ≡ after (left l) 0 = ap (after (left l)) z in
    let o = t.others in
    let n : length (left l') ≡ length (other_lines (left l)) = ap length o in
    small l'.label 16384 (left l') (omega (arith, few_lines l.rest.now, others_few (left l), n, a, t.label, t.short))
