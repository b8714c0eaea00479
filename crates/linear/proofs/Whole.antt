-- Lines of whole numbers, as rows of the numbers of a kind.
use Rattle.std.proofs.Common.{◌≡◌, ℕ, zero, suc, ◌+◌, ◌-◌, ◌<◌, Bool, true, false, cond, eqb, ltb, List, get_or, ℤ, pos, sym, refl, ap, ◌∙◌, subst, arith}
use Rattle.std.proofs.lemmas.Bool.{lt-ltb, le-ltb, cond-true, cond-false}
use Rattle.exact.specs.Fraction.{Fraction, whole, plus, times}
use Rattle.exact.specs.Kind.{KindLaws}
use Rattle.linear.specs.Linear.{val}
use Rattle.linear.specs.Lines.{Line, entry, line, total, Satisfies, Values, Meets}
use Rattle.linear.specs.Solved.{one_or_none, extended_by}
use Rattle.linear.proofs.Numbers.{Number, numbers}
use Rattle.linear.proofs.Told.{satisfies}

pub total_cong : (n : ℕ) (f g : ℕ → Fraction) → ((u : ℕ) → u < n → f u ≡ g u) → total n f ≡ total n g
total_cong zero f g e = refl
total_cong (suc n) f g e = ap (λ z. plus z (f n)) (total_cong n f g (λ u b. e u (omega arith))) ∙ ap (λ z. plus (total n g) z) (e n (omega arith))

pub satisfies_cong : (alike : Fraction → Fraction → Type 0) (n : ℕ) (x f g : ℕ → Fraction) → ((u : ℕ) → u < suc n → f u ≡ g u) → Satisfies alike n x f → Satisfies alike n x g
satisfies_cong alike n x f g e s =
    subst (λ z. alike z (g n)) (total_cong n (λ u. times (f u) (x u)) (λ u. times (g u) (x u)) (λ u b. ap (λ z. times z (x u)) (e u (omega arith))))
    (subst (λ z. alike (total n (λ u. times (f u) (x u))) z) (e n (omega arith)) s)

-- ---- the columns of a line with its multipliers
pub ext_left : (n : ℕ) (l : Line) (h u : ℕ) → u < suc n → extended_by n l h u ≡ entry l u
ext_left n l h u b = cond-true (ltb u (n + 1)) (entry l u) (one_or_none h (u - (n + 1))) (lt-ltb u (n + 1) (omega arith))

pub ext_right : (n : ℕ) (l : Line) (h i : ℕ) → extended_by n l h (suc n + i) ≡ one_or_none h i
ext_right n l h i =
    cond-false (ltb (suc n + i) (n + 1)) (entry l (suc n + i)) (one_or_none h (suc n + i - (n + 1))) (le-ltb (suc n + i) (n + 1) (omega arith))
    ∙ ap (one_or_none h) (omega arith)

module _ {admits : Fraction → Type 0} {alike : Fraction → Fraction → Type 0} (𝓚 : KindLaws admits alike) (n : ℕ) where
  pub ext_fine : (b c : Bool) (a : ℤ) → admits (cond b (whole a) (cond c (whole (pos 1)) (whole (pos 0))))
  ext_fine true c a = 𝓚.admits_whole a
  ext_fine false true a = 𝓚.admits_whole (pos 1)
  ext_fine false false a = 𝓚.admits_whole (pos 0)

  abbrev pub ext_number : Line → (place : ℕ) → ℕ → Number 𝓚
  ext_number l h u = record { told = extended_by n l h u; fine = ext_fine (ltb u (n + 1)) (eqb h (u - (n + 1))) (get_or l u (pos 0)) }

  abbrev pub line_n : List Line → ℕ → ℕ → Number 𝓚
  line_n ls i = ext_number (line ls i) i

  -- ---- values
  abbrev pub point_n : Values admits alike n → ℕ → Number 𝓚
  point_n x u = record { told = x.number u; fine = x.admitted u }

  abbrev pub point : (ℕ → Number 𝓚) → Values admits alike n
  point y = record { number = λ u. (y u).told; admitted = λ u. (y u).fine }

  -- a line is met exactly when it has the value 0
  pub met : (l : Line) (h : ℕ) (y : ℕ → Number 𝓚) → alike (val (numbers 𝓚) n y (ext_number l h)).told (whole (pos 0)) → Meets admits alike n l (point y)
  met l h y e = satisfies_cong alike n (λ u. (y u).told) (extended_by n l h) (entry l) (λ u b. ext_left n l h u b) ((satisfies 𝓚 n y (ext_number l h)).0 e)

  pub zero_if_met : (l : Line) (h : ℕ) (y : ℕ → Number 𝓚) → Meets admits alike n l (point y) → alike (val (numbers 𝓚) n y (ext_number l h)).told (whole (pos 0))
  zero_if_met l h y e = (satisfies 𝓚 n y (ext_number l h)).1 (satisfies_cong alike n (λ u. (y u).told) (entry l) (extended_by n l h) (λ u b. sym (ext_left n l h u b)) e)
