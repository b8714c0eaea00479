-- The working row of a line: its numbers, then the multipliers.
use Rattle.std.proofs.Common.{◌≡◌, ℕ, ◌+◌, ◌-◌, ◌≤◌, List, ◌++◌, length, take, drop, ap, ◌∙◌, ap₂, append-nil, arith, length-append, length-drop, length-take-le}
use borrow.Rule.Slice.PartMut.{put_mid}
use Rattle.std.proofs.lemmas.List.{drop_all}
use Rattle.exact.specs.Kind.{Kind}
use Rattle.elimination.specs.Held.{wide, row_place, row_at, OnlyRow}
use Rattle.elimination.specs.Outcome.{multipliers}
use Rattle.elimination.specs.Steps.{opening}
use Rattle.elimination.proofs.Frames.{part_own, only_put}

-- the multipliers x are written over the end of a row w that begins with the line
module _ {V : Type 0} (K : Kind V) (n h : ℕ) (m line w x : List V) (fits : row_place n h + wide n ≤ length m) (long : length w ≡ wide n) (front : take (n + 1) w ≡ line)
    (size : length x ≡ length (take (length w - (n + 1)) (drop (n + 1) w))) (is : x ≡ multipliers K (length (take (length w - (n + 1)) (drop (n + 1) w))) h) where
  new : List V
  new = put_mid (n + 1) (length w - (n + 1)) w x

  cut : length (take (length w - (n + 1)) (drop (n + 1) w)) ≡ n
  cut = length-take-le (length w - (n + 1)) (drop (n + 1) w) (let d = length-drop (n + 1) w in omega (arith, d)) ∙ omega (arith, long)

  parts : new ≡ take (n + 1) w ++ x
  unfolding new
  parts = ap (λ l. take (n + 1) w ++ (x ++ l)) (drop_all (length w - (n + 1)) (drop (n + 1) w) (let d = length-drop (n + 1) w in omega (arith, d))) ∙ ap (λ l. take (n + 1) w ++ l) (append-nil x)

  whole : length new ≡ wide n
  whole = ap length parts ∙ length-append (take (n + 1) w) x ∙ (let a = length-take-le (n + 1) w (omega arith) in omega (arith, a, size, cut))

  pub row_opened : row_at n (put_mid (row_place n h) (wide n) m (put_mid (n + 1) (length w - (n + 1)) w x)) h ≡ opening K n h line
  unfolding new
  row_opened = part_own (row_place n h) (wide n) m new fits whole ∙ parts ∙ ap₂ (λ a b. a ++ b) front (is ∙ ap (λ i. multipliers K i h) cut)

  pub row_only : OnlyRow n h m (put_mid (row_place n h) (wide n) m (put_mid (n + 1) (length w - (n + 1)) w x))
  unfolding new
  row_only = only_put n h m new fits whole
