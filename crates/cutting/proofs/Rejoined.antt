-- The lines of a text are the text.
use Rattle.std.proofs.Common.{◌≡◌, ℕ, zero, suc, Bool, true, false, cond, eqb, List, [], ◌∷◌, sym, refl, ap, ◌∙◌, arith, eqb-true}
use borrow.Author.Tests.{eqb-false}
use Rattle.std.specs.List.{AllByRecursion}
use Rattle.cutting.specs.Lines.{before, lines}
use Rattle.cutting.specs.Joined.{rejoined, ended, Unbroken}

-- a byte before lines that there are goes before all their bytes
in_front : (v : Bool) (b c : ℕ) (ls : List (List ℕ)) → rejoined (before b (cond v ([] ∷ ls) (before c ls))) ≡ b ∷ rejoined (cond v ([] ∷ ls) (before c ls))
in_front true b c ls = refl
in_front false b c [] = refl
in_front false b c (l ∷ ls) = refl

by_first : (v : Bool) (b : ℕ) (bs : List ℕ) → v ≡ eqb b 10 → rejoined (lines bs) ≡ ended bs → rejoined (cond v ([] ∷ lines bs) (before b (lines bs))) ≡ ended (b ∷ bs)
by_first true b [] e h = let n = eqb-true b 10 (sym e) in ap (λ x. x ∷ []) (sym n) ∙ ap (λ x. cond x (b ∷ []) (b ∷ 10 ∷ [])) e
by_first true b (c ∷ bs) e h = let n = eqb-true b 10 (sym e) in ap (λ x. 10 ∷ x) h ∙ ap (λ x. x ∷ ended (c ∷ bs)) (sym n)
by_first false b [] e h = ap (λ x. cond x (b ∷ []) (b ∷ 10 ∷ [])) e
by_first false b (c ∷ bs) e h = in_front (eqb c 10) b c (lines bs) ∙ ap (λ x. b ∷ x) h

pub whole : (text : List ℕ) → rejoined (lines text) ≡ ended text
whole [] = refl
whole (b ∷ bs) = by_first (eqb b 10) b bs refl (whole bs)

none : Unbroken []
none k h = absurd (omega arith)

longer : (b : ℕ) (l : List ℕ) → (b ≡ 10 → ⊥) → Unbroken l → Unbroken (b ∷ l)
longer b l n h zero k = n
longer b l n h (suc i) k = h i (omega arith)

put_before : (b : ℕ) (ls : List (List ℕ)) → (b ≡ 10 → ⊥) → AllByRecursion Unbroken ls → AllByRecursion Unbroken (before b ls)
put_before b [] n h = (longer b [] n none, tt)
put_before b (l ∷ ls) n h = (longer b l n h.0, h.1)

unbroken_by : (v : Bool) (b : ℕ) (bs : List ℕ) → v ≡ eqb b 10 → AllByRecursion Unbroken (lines bs) → AllByRecursion Unbroken (cond v ([] ∷ lines bs) (before b (lines bs)))
unbroken_by true b bs e h = (none, h)
unbroken_by false b bs e h = put_before b (lines bs) (eqb-false b 10 (sym e)) h

pub unbroken : (text : List ℕ) → AllByRecursion Unbroken (lines text)
unbroken [] = tt
unbroken (b ∷ bs) = unbroken_by (eqb b 10) b bs refl (unbroken bs)
