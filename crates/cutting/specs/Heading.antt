-- The heading of an input.
use Rattle.std.specs.Prelude.{◌≡◌, ℕ, ◌+◌, ◌*◌, ◌<◌, ◌≤◌, ◌⊎◌, List, [], ◌∷◌, Ok, Err, Result, ◌≢◌}
use Rattle.cutting.specs.declared.heading.KindLetter.{KindLetter}
use Rattle.cutting.specs.declared.heading.KindLetter.TheVariants.{R, P, I}
use Rattle.cutting.specs.declared.heading.Heading.{Heading}
use Rattle.cutting.specs.declared.heading.HeadingFault.{HeadingFault}
use Rattle.cutting.specs.declared.heading.HeadingFault.TheVariants.{Form, Size}

-- the byte of a letter
abbrev pub letter : KindLetter → ℕ
letter R = 82
letter P = 80
letter I = 73

-- a letter, a space, and n in one or two digits
abbrev pub IsHeading : List ℕ → KindLetter → ℕ → Type 0
IsHeading t k n =
    ((d : ℕ) × (d < 10) × (n ≡ d) × (t ≡ letter k ∷ 32 ∷ (48 + d) ∷ []))
    ⊎ ((d : ℕ) × (e : ℕ) × (d < 10) × (e < 10) × (n ≡ 10 * d + e) × (t ≡ letter k ∷ 32 ∷ (48 + d) ∷ (48 + e) ∷ []))

-- the heading of the text, if its n is one of 1 to 48
abbrev pub Headed : List ℕ → Result Heading HeadingFault → Type 0
Headed t (Ok h) = IsHeading t h.kind h.n × (1 ≤ h.n) × (h.n ≤ 48)
Headed t (Err Form) = (k : KindLetter) (n : ℕ) → IsHeading t k n → ⊥
Headed t (Err Size) = (k : KindLetter) × (n : ℕ) × IsHeading t k n × ((1 ≤ n) × (n ≤ 48) → ⊥)

abbrev pub Parts : List ℕ → Result Heading HeadingFault → Type 0
Parts t (Ok h) = IsHeading t h.kind h.n
Parts t (Err e) = (e ≡ Form) × ((k : KindLetter) (n : ℕ) → IsHeading t k n → ⊥)

abbrev pub ReadsLetter : ℕ → Result KindLetter HeadingFault → Type 0
ReadsLetter b (Ok k) = b ≡ letter k
ReadsLetter b (Err e) = (e ≡ Form) × ((k : KindLetter) → b ≢ letter k)

abbrev pub ReadsDigit : ℕ → Result ℕ HeadingFault → Type 0
ReadsDigit b (Ok d) = (d < 10) × (b ≡ 48 + d)
ReadsDigit b (Err e) = (e ≡ Form) × ((d : ℕ) → d < 10 → b ≢ 48 + d)
