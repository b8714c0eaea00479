-- A memory in two halves, the rows before a place and what lies from there on.
use Rattle.std.proofs.Common.{◌≡◌, ℕ, ◌+◌, ◌<◌, ◌≤◌, List, ◌++◌, length, take, drop, sym, ap, ap₂, ◌∙◌, append_assoc, arith, length-drop, take_all, take-take}
use borrow.Rule.Slice.PartMut.{put_mid}
use lib.Seq.{take-append-le, drop-append-le}
use Rattle.std.proofs.lemmas.List.{take_at}
use Rattle.elimination.specs.Held.{wide, row_place, row_at}
use Rattle.elimination.proofs.Frames.{part_under}
use Rattle.elimination.proofs.Places.{row_next}

-- a part of the first half is written
pub put_front : {V : Type 0} (a k : ℕ) (xs ys v : List V) → a + k ≤ length xs → put_mid a k (xs ++ ys) v ≡ put_mid a k xs v ++ ys
put_front a k xs ys v h =
    ap₂ (λ l r. l ++ (v ++ r)) (take-append-le a xs ys (omega arith)) (ap (drop k) (drop-append-le a xs ys (omega arith)) ∙ drop-append-le k (drop a xs) ys (let d = length-drop a xs in omega (arith, d)))
    ∙ ap (λ r. take a xs ++ r) (sym (append_assoc v (drop k (drop a xs)) ys)) ∙ sym (append_assoc (take a xs) (v ++ drop k (drop a xs)) ys)

-- the second half is written at its begin
pub put_back : {V : Type 0} (p : ℕ) {k i : ℕ} (m rows rest v : List V) → rows ≡ take p m → rest ≡ drop p m → i ≡ k → rows ++ (v ++ drop i rest) ≡ put_mid p k m v
put_back p m rows rest v front back e = ap₂ (λ a b. a ++ (v ++ b)) front (ap₂ drop e back)

module _ {V : Type 0} (n h j : ℕ) (before : j < h) (m : List V) where
  -- a row of the first half, as it lies in the memory
  pub row_front : (rows : List V) → rows ≡ take (row_place n h) m → row_at n rows j ≡ row_at n m j
  row_front rows e = part_under m rows (row_place n h) (row_place n j) (wide n) (row_next n j h before) (ap (take (row_place n h)) e ∙ take-take (row_place n h) (row_place n h) m (omega arith))

  pub row_joined : (ys : List V) → length m ≡ row_place n h → row_at n (m ++ ys) j ≡ row_at n m j
  row_joined ys e = part_under m (m ++ ys) (row_place n h) (row_place n j) (wide n) (row_next n j h before) (take_at m ys (row_place n h) e ∙ sym (take_all (row_place n h) m (omega (arith, e))))
