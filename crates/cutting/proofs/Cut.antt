-- Where a line ends.
use Rattle.std.proofs.Common.{subst, ◌==◌, Some, None, not, Option, ltb-true, Bool, true, false, eqb, ltb, ltb-false, ◌≡◌, ℕ, suc, ◌+◌, ◌-◌, ◌<◌, cond, List, [], ◌∷◌, length, take, drop, sym, refl, ap, ◌∙◌, add-one, arith, length-drop}
use Rattle.std.proofs.lemmas.List.{take_all, drop_all}
use Rattle.std.specs.List.{position, position_or_len}
use Rattle.cutting.specs.Lines.{before, lines, labelled}

-- the place of the first byte 10, or the length
abbrev pub end : List ℕ → ℕ
end bs = position_or_len (λ b. b == 10) bs

cut_by : (v : Bool) (b : ℕ) (bs : List ℕ) → (0 < length bs → lines bs ≡ take (end bs) bs ∷ lines (drop (suc (end bs)) bs)) → cond v ([] ∷ lines bs) (before b (lines bs)) ≡ take (cond (not v) (1 + end bs) 0) (b ∷ bs) ∷ lines (drop (suc (cond (not v) (1 + end bs) 0)) (b ∷ bs))
cut_by true b bs h = refl
cut_by false b [] h = refl
cut_by false b (c ∷ bs) h = ap (before b) (h (omega arith)) ∙ ap (λ k. take k (b ∷ c ∷ bs) ∷ lines (drop (suc k) (b ∷ c ∷ bs))) (sym next)
  where
    next : 1 + end (c ∷ bs) ≡ suc (end (c ∷ bs))
    next = omega arith

pub cut : (bs : List ℕ) → 0 < length bs → lines bs ≡ take (end bs) bs ∷ lines (drop (suc (end bs)) bs)
cut [] h = absurd (omega arith)
cut (b ∷ bs) h = cut_by (eqb b 10) b bs (cut bs)

-- the first line and the others, by the place of the first byte 10
abbrev pub Parted : List ℕ → Option ℕ → Type 0
Parted bs None = 0 < length bs → lines bs ≡ bs ∷ []
Parted bs (Some k) = lines bs ≡ take k bs ∷ lines (drop (k + 1) bs)

parted_by : (v : Bool) (bs : List ℕ) → ltb (end bs) (length bs) ≡ v → Parted bs (cond v (Some (end bs)) None)
parted_by true bs e = rw add-one (cut bs (omega (arith, ltb-true (end bs) (length bs) e)))
parted_by false bs e = λ h. cut bs h ∙ ap (λ l. l ∷ lines (drop (suc (end bs)) bs)) (take_all (end bs) bs (omega (arith, ltb-false (end bs) (length bs) e))) ∙ ap (λ l. bs ∷ lines l) (drop_all (suc (end bs)) bs (omega (arith, ltb-false (end bs) (length bs) e)))

parted : (bs : List ℕ) → Parted bs (position (λ b. b == 10) bs)
parted bs = parted_by (ltb (end bs) (length bs)) bs refl

pub first : (bs : List ℕ) (k : ℕ) → position (λ b. b == 10) bs ≡ Some k → lines bs ≡ take k bs ∷ lines (take (length bs - (k + 1)) (drop (k + 1) bs))
first bs k e = subst (Parted bs) e (parted bs) ∙ ap (λ l. take k bs ∷ lines l) (sym (take_all (length bs - (k + 1)) (drop (k + 1) bs) (omega (arith, length-drop (k + 1) bs))))

pub only : (bs l r : List ℕ) → position (λ b. b == 10) bs ≡ None → 0 < length bs → l ≡ take (length bs) bs → r ≡ drop (length bs) bs → lines bs ≡ l ∷ lines r
only bs l r e h f g = rw (f ∙ take_all (length bs) bs (omega arith), g ∙ drop_all (length bs) bs (omega arith)) (subst (Parted bs) e (parted bs) h)

-- the labels go on over a line
pub over_empty : (k : ℕ) (l : List ℕ) (ls : List (List ℕ)) → length l ≡ 0 → labelled k (l ∷ ls) ≡ labelled (k + 1) ls
over_empty k [] ls h = refl
over_empty k (b ∷ l) ls h = absurd (omega arith)

pub over_line : (k : ℕ) (l : List ℕ) (ls : List (List ℕ)) → 0 < length l → labelled k (l ∷ ls) ≡ (k, l) ∷ labelled (k + 1) ls
over_line k [] ls h = absurd (omega arith)
over_line k (b ∷ l) ls h = refl
