-- The newest mark is the last count.
use Rattle.std.proofs.Common.{◌≡◌, ℕ, ◌-◌, List, [], ◌∷◌, ◌++◌, length, take, reverse, slice_get, Some, sym, refl, ap, ◌∙◌, subst, arith, length-append}
use Rattle.std.proofs.Math.Seq.{take-append_seam}
use Rattle.std.proofs.lemmas.List.{reverse-append, reverse-reverse}
use Rattle.ledger.specs.Marked.{newest_of, older}

slice_get_seam : (front : List ℕ) (m : ℕ) → slice_get (front ++ m ∷ []) (length front) ≡ Some m
slice_get_seam [] m = refl
slice_get_seam (x ∷ front) m = slice_get_seam front m

module _ (front : List ℕ) (m : ℕ) where
  before_last : length (front ++ m ∷ []) - 1 ≡ length front
  before_last = let e = length-append front (m ∷ []) in omega arith

  turned : reverse (front ++ m ∷ []) ≡ m ∷ reverse front
  turned = reverse-append front (m ∷ [])

  newest_seam : slice_get (front ++ m ∷ []) (length (front ++ m ∷ []) - 1) ≡ newest_of (reverse (front ++ m ∷ []))
  newest_seam = ap (slice_get (front ++ m ∷ [])) before_last ∙ slice_get_seam front m ∙ sym (ap newest_of turned)

  older_seam : reverse (take (length (front ++ m ∷ []) - 1) (front ++ m ∷ [])) ≡ older (reverse (front ++ m ∷ []))
  older_seam = ap (λ k. reverse (take k (front ++ m ∷ []))) before_last ∙ ap reverse (take-append_seam front (m ∷ [])) ∙ sym (ap older turned)

-- what holds of no count, and of some with a last one, holds of all
by_last : (P : List ℕ → Type 0) → P [] → ((front : List ℕ) (m : ℕ) → P (front ++ m ∷ [])) → (counts : List ℕ) → P counts
by_last P none some counts = subst P (reverse-reverse counts) (go (reverse counts))
  where
    go : (ms : List ℕ) → P (reverse ms)
    go [] = none
    go (m ∷ ms) = subst P (sym (reverse-append (m ∷ []) ms)) (some (reverse ms) m)

pub newest_last : (counts : List ℕ) → slice_get counts (length counts - 1) ≡ newest_of (reverse counts)
newest_last = by_last (λ counts. slice_get counts (length counts - 1) ≡ newest_of (reverse counts)) refl newest_seam

pub older_rest : (counts : List ℕ) → reverse (take (length counts - 1) counts) ≡ older (reverse counts)
older_rest = by_last (λ counts. reverse (take (length counts - 1) counts) ≡ older (reverse counts)) refl older_seam
