-- Numbers copied to an earlier part of the same list: the part that was written, what lies before it, and what lies after it.
use Rattle.std.proofs.Common.{◌≡◌, ℕ, ◌+◌, ◌-◌, ◌≤◌, List, ◌++◌, length, take, drop, sym, ap, ap₂, ◌∙◌, arith, length-drop, length-take-le, take-take}
use lib.Seq.{paste}
use Rattle.std.proofs.lemmas.List.Edits.{take-paste, drop-paste}
use Rattle.std.proofs.lemmas.List.{take_at, drop_at, drop-take}

module _ {V : Type 0} (m m' : List V) {a b d : ℕ} (from to k : ℕ) (start : a ≡ from) (end : b ≡ from + k) (dest : d ≡ to) (is : m' ≡ paste m d (drop a m) (b - a)) (apart : to + k ≤ from) (inside : from + k ≤ length m) where
  copy : m' ≡ paste m to (drop from m) k
  copy = is ∙ ap₂ (λ i j. paste m i (drop a m) j) dest (omega (arith, start, end)) ∙ ap (λ i. paste m to (drop i m) k) start

  source_long : k ≤ length (drop from m)
  source_long = let e = length-drop from m in omega (arith, e)

  front : take (to + k) m' ≡ take to m ++ take k (drop from m)
  front = ap (take (to + k)) copy ∙ take-paste m to (drop from m) k (omega arith) source_long

  before : length (take to m) ≡ to
  before = length-take-le to m (omega arith)

  pub copied : (take k (drop to m') ≡ take k (drop from m)) × (take to m' ≡ take to m) × (drop (to + k) m' ≡ drop (to + k) m)
  copied = (
    sym (drop-take to k m') ∙ ap (drop to) front ∙ drop_at (take to m) (take k (drop from m)) to before,
    sym (take-take to (to + k) m' (omega arith)) ∙ ap (take to) front ∙ take_at (take to m) (take k (drop from m)) to before,
    ap (drop (to + k)) copy ∙ drop-paste m to (drop from m) k (omega arith) source_long,
  )
