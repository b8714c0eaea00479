-- An input that is not opened is told in one row.
use Rattle.std.proofs.Common.{◌≡◌, ℕ, ◌+◌, List, [], ◌∷◌, ◌++◌, Ok, codes, decimal, sym, refl, ap, ◌∙◌, subst, inl, inr, lit<, lit≤}
use Rattle.std.proofs.lemmas.Fmt.{decimal_digit, decimal_step}
use Rattle.cutting.specs.declared.lines.Lines.{Lines}
use Rattle.cutting.specs.declared.heading.Heading as head
use Rattle.cutting.specs.Lines.{labelled}
use Rattle.cutting.specs.Taken.{named, left}
use Rattle.printing.specs.Rows.{refused_row}
use Rattle.placing.specs.declared.fault.TextFault.{TextFault}
use Rattle.placing.specs.declared.fault.TextFault.TheVariants.{Room, Form, Heading, OutsideSetPoint, TwiceSetPoint, TooLong, Sheet}
use Rattle.placing.specs.Faults.{text_report}
use Rattle.placing.specs.Input.{Unopened, Opened, other_lines, after}
use Rattle.recipe.specs.Transcribed.{Worked, Transcribed}

nought : decimal 0 ≡ 48 ∷ []
nought = decimal_digit 0 (lit< tt)

one : decimal 1 ≡ 49 ∷ []
one = decimal_digit 1 (lit< tt)

twenty_two : decimal 22 ≡ 50 ∷ 50 ∷ []
twenty_two = decimal_step 22 (lit≤ tt) (lit< tt) ∙ ap (λ x. x ++ 50 ∷ []) (decimal_digit 2 (lit< tt))

twenty_six : decimal 26 ≡ 50 ∷ 54 ∷ []
twenty_six = decimal_step 26 (lit≤ tt) (lit< tt) ∙ ap (λ x. x ++ 54 ∷ []) (decimal_digit 2 (lit< tt))

-- the row of a refusal with label 0 and no column
row : (n : ℕ) (ds : List ℕ) → decimal n ≡ ds → decimal 0 ++ codes " refused " ++ decimal n ++ (32 ∷ []) ++ decimal 0 ++ (10 ∷ []) ≡ (48 ∷ []) ++ codes " refused " ++ ds ++ (32 ∷ []) ++ (48 ∷ []) ++ (10 ∷ [])
row n ds e =
    ap (λ z. z ++ codes " refused " ++ decimal n ++ (32 ∷ []) ++ z ++ (10 ∷ [])) nought
    ∙ ap (λ x. (48 ∷ []) ++ codes " refused " ++ x ++ (32 ∷ []) ++ (48 ∷ []) ++ (10 ∷ [])) e

shut : (l l' : Lines) (f : TextFault) → Unopened l l' f → Transcribed l.rest.now (refused_row 0 (text_report f))
shut l l' Room u = absurd u
shut l l' (Form c) u = absurd u
shut l l' Heading u = inr (inl (u.0.short, u.1, row 22 _ twenty_two))
shut l l' (OutsideSetPoint c) u = absurd u
shut l l' (TwiceSetPoint c) u = absurd u
shut l l' TooLong u = inl (u.0, row 26 _ twenty_six)
shut l l' (Sheet f c) u = inr (inr (inl (u.0.short, u.1, ap (λ g. refused_row 0 (text_report (Sheet g c))) u.2 ∙ row 1 _ one)))

pub unopened : (input out : List ℕ) (l l' : Lines) (f : TextFault) → l.rest.now ≡ input → Unopened l l' f → out ≡ refused_row 0 (text_report f) → Transcribed input out
unopened input out l l' f e u o = subst (λ x. Transcribed x out) e (subst (Transcribed l.rest.now) (sym o) (shut l l' f u))

-- of an input that is opened the lines after the heading are labelled from 1
relabelled : (ls : List (List ℕ)) (k : ℕ) → k ≡ 0 → labelled (after ls k) (other_lines ls) ≡ labelled 1 (other_lines ls)
relabelled [] k e = refl
relabelled (l ∷ ls) k e = ap (λ n. labelled (n + 1) ls) e

pub is_opened : (input out : List ℕ) (l l' : Lines) (h : head.Heading) → l.rest.now ≡ input → l.label ≡ 0 → Opened l l' (Ok h) → Worked h.kind h.n (named l') out → Transcribed input out
is_opened input out l l' h e z o w =
    let t = o.0 in
    let names : named l' ≡ labelled 1 (other_lines (left l)) = ap (labelled l'.label) t.others ∙ ap (λ k. labelled k (other_lines (left l))) t.label ∙ relabelled (left l) l.label z in
    subst (λ x. Transcribed x out) e
    (inr (inr (inr (h, t.short, o.1, subst (λ ls. Worked h.kind h.n ls out) names w))))
