-- The first line of an input.
use Rattle.std.proofs.Common.{◌≡◌, ℕ, ◌+◌, ◌≤◌, List, ◌∷◌, length, Err, sym, refl, ap, ◌∙◌, subst}
use Rattle.cutting.specs.declared.heading.HeadingFault.{HeadingFault}
use Rattle.cutting.specs.declared.heading.HeadingFault.TheVariants.{Form, Size}
use Rattle.cutting.specs.declared.lines.Lines.{Lines}
use Rattle.cutting.specs.Heading.{Headed}
use Rattle.cutting.specs.Taken.{left}
use Rattle.placing.specs.Faults.{heading_raised}
use Rattle.placing.specs.Input.{first_line, other_lines, after, FirstTaken, Unopened}

module _ (l l' : Lines) (line : List ℕ) (short : length l.rest.now ≤ 16384) (e : left l ≡ line ∷ left l') (k : l'.label ≡ l.label + 1) where
  taken : FirstTaken l l'
  taken = record { short = short; others = sym (ap other_lines e); label = k ∙ sym (ap (λ ls. after ls l.label) e) }

  pub unopened : (f : HeadingFault) → Headed line (Err f) → Unopened l l' (heading_raised f)
  unopened Form h = (taken, subst (λ t. Headed t (Err Form)) (sym (ap first_line e)) h)
  unopened Size h = (taken, subst (λ t. Headed t (Err Size)) (sym (ap first_line e)) h, refl, refl)
