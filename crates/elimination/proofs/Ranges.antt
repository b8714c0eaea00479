-- The part of a memory that a range has.
use Rattle.std.proofs.Common.{◌≡◌, ℕ, ◌+◌, ◌-◌, List, take, drop, ap₂, arith}
use borrow.Rule.Slice.PartMut.{put_mid}

module _ {a b p : ℕ} (k : ℕ) (start : a ≡ p) (end : b ≡ p + k) where
  pub long : b - a ≡ k
  long = omega (arith, start, end)

  pub part : {V : Type 0} (m : List V) → take (b - a) (drop a m) ≡ take k (drop p m)
  part m = ap₂ (λ i j. take i (drop j m)) long start

  pub put : {V : Type 0} (m v : List V) → put_mid a (b - a) m v ≡ put_mid p k m v
  put m v = ap₂ (λ j i. put_mid j i m v) start long
