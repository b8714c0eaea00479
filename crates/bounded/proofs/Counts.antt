-- How many items a bounded list holds.
use Rattle.std.proofs.Common.{◌≡◌, ℕ, length, arith, length-take-le}
use Rattle.bounded.specs.declared.bounded.Bounded.{Bounded}
use Rattle.bounded.specs.Items.{items}

pub items_count : {T : Type 0} {N : ℕ} (b : Bounded T N) → length (items b) ≡ b.count
unfolding items
items_count b = length-take-le b.count b.places (let h = b.within in let w = b.whole in omega arith)
