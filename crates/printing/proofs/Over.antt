-- A write over a part of a list.
use Rattle.std.proofs.Common.{◌≡◌, ℕ, ◌+◌, ◌≤◌, List, ◌++◌, length, take, drop, sym, append_assoc, arith, length-append, length-drop}
use Rattle.std.proofs.Common.{ap, ◌∙◌}
use Rattle.std.proofs.lemmas.List.{length-take-le}
use Rattle.std.proofs.lemmas.List.{take_at, drop_at, drop-drop}
use Rattle.printing.specs.Rows.{written}

module _ (d : List ℕ) (at : ℕ) (xs : List ℕ) (n : ℕ) (e : n ≡ at + length xs) (h : n ≤ length d) where
  front : length (take at d ++ xs) ≡ n
  front = let k : at ≤ length d = omega arith in rw (length-append, length-take-le) (sym e)

  shape : written d at xs ≡ (take at d ++ xs) ++ drop n d
  shape = rw e (sym (append_assoc (take at d) xs (drop (at + length xs) d)))

  -- a write where another ends
  pub then : (ys : List ℕ) → written (written d at xs) n ys ≡ written d at (xs ++ ys)
  then ys =
      ap (λ w. take n w ++ (ys ++ drop (n + length ys) w)) shape
      ∙ ap (λ l. l ++ (ys ++ drop (n + length ys) ((take at d ++ xs) ++ drop n d))) (take_at (take at d ++ xs) (drop n d) n front)
      ∙ ap (λ l. (take at d ++ xs) ++ (ys ++ l)) (sym (drop-drop (length ys) n ((take at d ++ xs) ++ drop n d)) ∙ ap (drop (length ys)) (drop_at (take at d ++ xs) (drop n d) n front) ∙ drop-drop (length ys) n d)
      ∙ append_assoc (take at d) xs (ys ++ drop (n + length ys) d)
      ∙ ap (λ l. take at d ++ l) (sym (append_assoc xs ys (drop (n + length ys) d)) ∙ ap (λ k. (xs ++ ys) ++ drop k d) total)
    where
      total : n + length ys ≡ at + length (xs ++ ys)
      total = omega (arith, length-append xs ys)

  pub length_written : length (written d at xs) ≡ length d
  length_written = rw (shape, length-append, front) (omega (arith, length-drop n d))
