-- A row of whole numbers that every kind holds.
use Rattle.std.proofs.Common.{◌≡◌, ℕ, ◌+◌, ◌<◌, ◌≤◌, Bool, List, [], ◌∷◌, map, length, get_or, drop, ℤ, pos, nat_abs, Ok, sym, ap, ◌∙◌, arith}
use Rattle.std.proofs.lemmas.List.{drop_more, drop_all}
use Rattle.exact.specs.Fraction.{Fraction}
use Rattle.exact.specs.Kind.{Kind, Lawful}
use Rattle.exact.specs.Answers.{value_of}
use Rattle.exact.proofs.Held.{whole_held}
use Rattle.rows.specs.Row.{placed, ahead, onto, by_column, whole_op, whole_row}
use Rattle.rows.proofs.Ops.{whole_inside}

module _ {V : Type 0} {K : Kind V} {admits : Fraction → Type 0} {alike : Fraction → Fraction → Type 0} {complete : Bool} (laws : Lawful K admits alike complete) (numbers : List ℤ)
    (small : (u : ℕ) → u < length numbers → nat_abs (get_or numbers u (pos 0)) ≤ 1000000) where
  from : (i : ℕ) (w : List V) → i + length w ≡ length numbers → by_column (whole_op K numbers) i w ≡ Ok (map (value_of K) (drop i numbers))
  from i [] e = ap (λ l. Ok (map (value_of K) l)) (sym (drop_all i numbers (omega arith)))
  from i (x ∷ w) e =
      let b : i < length numbers = omega arith in
      let z = get_or numbers i (pos 0) in
      ap (λ o. onto (placed i o) (by_column (whole_op K numbers) (i + 1) w)) (whole_inside K numbers i x b ∙ whole_held laws z (small i b))
      ∙ ap (ahead (value_of K z)) (from (i + 1) w (omega arith))
      ∙ ap (λ l. Ok (map (value_of K) l)) (sym (drop_more numbers i (pos 0) b))

  pub loaded : (w : List V) → length w ≡ length numbers → whole_row K numbers w ≡ Ok (map (value_of K) numbers)
  unfolding whole_row
  loaded w e = from 0 w (omega arith)
