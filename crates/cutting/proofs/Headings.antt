-- The digits of a heading, and which texts are none.
use Rattle.std.proofs.Common.{Result, ◌≡◌, ℕ, ◌+◌, ◌<◌, ◌⊎◌, List, length, get_or, ap, inl, inr}
use Rattle.cutting.specs.declared.heading.KindLetter.{KindLetter}
use Rattle.std.specs.Result.{IsErrAnd}
use Rattle.std.proofs.lemmas.Result.{err_from_is_err_and}
use Rattle.cutting.specs.declared.heading.Heading.{Heading}
use Rattle.cutting.specs.declared.heading.HeadingFault.{HeadingFault}
use Rattle.cutting.specs.declared.heading.HeadingFault.TheVariants.{Form}
use Rattle.cutting.specs.Heading.{IsHeading, Parts}

-- its third byte, and its fourth if it has one
pub record Digits (t : List ℕ) : Type 0 where
  pub first : (d : ℕ) × (d < 10) × (get_or t 2 0 ≡ 48 + d)
  pub second : length t ≡ 3 ⊎ ((e : ℕ) × (e < 10) × (get_or t 3 0 ≡ 48 + e))

digits : (t : List ℕ) (k : KindLetter) (n : ℕ) → IsHeading t k n → Digits t
digits t k n (inl p) = record { first = (p.0, p.1, ap (λ l. get_or l 2 0) p.3); second = inl (ap length p.3) }
digits t k n (inr p) = record { first = (p.0, p.2, ap (λ l. get_or l 2 0) p.5); second = inr (p.1, p.3, ap (λ l. get_or l 3 0) p.5) }

pub no_first : (t : List ℕ) → ((d : ℕ) → d < 10 → get_or t 2 0 ≡ 48 + d → ⊥) → (k : KindLetter) (n : ℕ) → IsHeading t k n → ⊥
no_first t h k n p = let s = (digits t k n p).first in h s.0 s.1 s.2

pub no_second : (t : List ℕ) → (length t ≡ 3 → ⊥) → ((d : ℕ) → d < 10 → get_or t 3 0 ≡ 48 + d → ⊥) → (k : KindLetter) (n : ℕ) → IsHeading t k n → ⊥
no_second t l h k n p = elim (digits t k n p).second [ inl e ↦ l e | inr s ↦ h s.0 s.1 s.2 ]

-- a fault that is passed on
pub passed : (t : List ℕ) (r : Result Heading HeadingFault) (e : HeadingFault) → IsErrAnd r (λ f. f ≡ e) → e ≡ Form → ((k : KindLetter) (n : ℕ) → IsHeading t k n → ⊥) → Parts t r
passed t r e i f h = let p = err_from_is_err_and r i in rw (p.1, p.2) (f, h)
