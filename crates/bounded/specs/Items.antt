-- What a bounded list holds.
use Rattle.std.specs.Prelude.{ℕ, List, take}
use Rattle.bounded.specs.declared.bounded.Bounded.{Bounded}

-- the items, the oldest first
unfoldable pub items : {T : Type 0} → {N : ℕ} → Bounded T N → List T
items b = take b.count b.places
