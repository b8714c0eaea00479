-- What is printed of an input.
use Rattle.std.specs.Prelude.{◌≡◌, ℕ, ◌<◌, ◌≤◌, ◌⊎◌, List, [], ◌∷◌, ◌++◌, length, Ok, Err, codes}
use Rattle.fractions.specs.Laws.{ratio_kind}
use Rattle.residues.specs.ParityKind.{parity_kind}
use Rattle.residues.specs.IndexKind.{index_kind}
use Rattle.cutting.specs.declared.heading.Heading.{Heading}
use Rattle.cutting.specs.declared.heading.KindLetter.{KindLetter}
use Rattle.cutting.specs.declared.heading.KindLetter.TheVariants.{R, P, I}
use Rattle.cutting.specs.declared.heading.HeadingFault.TheVariants.{Form, Size}
use Rattle.cutting.specs.Heading.{Headed}
use Rattle.cutting.specs.Lines.{lines, labelled}
use Rattle.placing.specs.Input.{first_line, other_lines}
use Rattle.recipe.specs.Run.{SheetDone}

-- in the numbers of the kind that a letter names
abbrev pub Worked : KindLetter → ℕ → List (ℕ × List ℕ) → List ℕ → Type 0
Worked R n ls out = SheetDone ratio_kind n ls out
Worked P n ls out = SheetDone parity_kind n ls out
Worked I n ls out = SheetDone index_kind n ls out

-- a row alone
abbrev pub alone : List ℕ → List ℕ
alone row = row ++ 10 ∷ []

abbrev pub TooLong : List ℕ → List ℕ → Type 0
TooLong input out = (16384 < length input) × (out ≡ alone (codes "0 refused 26 0"))

abbrev pub NoHeading : List ℕ → List ℕ → Type 0
NoHeading input out = (length input ≤ 16384) × Headed (first_line (lines input)) (Err Form) × (out ≡ alone (codes "0 refused 22 0"))

abbrev pub BadSize : List ℕ → List ℕ → Type 0
BadSize input out = (length input ≤ 16384) × Headed (first_line (lines input)) (Err Size) × (out ≡ alone (codes "0 refused 1 0"))

-- the lines after the heading are counted from 1
abbrev pub Opens : List ℕ → List ℕ → Type 0
Opens input out =
    (h : Heading) × (length input ≤ 16384) × Headed (first_line (lines input)) (Ok h) × Worked h.kind h.n (labelled 1 (other_lines (lines input))) out

abbrev pub Transcribed : List ℕ → List ℕ → Type 0
Transcribed input out = TooLong input out ⊎ NoHeading input out ⊎ BadSize input out ⊎ Opens input out
