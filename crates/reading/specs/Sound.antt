-- What the reader's numbers keep to.
use Rattle.std.specs.Prelude.{ℕ, ◌^◌, ◌<◌, ◌≤◌}
use Rattle.reading.specs.Parts.{FigureParts}

-- n has at most k digits, and k is at most seven
abbrev pub Fit : ℕ → ℕ → Type 0
Fit n k = (n < 10 ^ k) × (k ≤ 7)

-- an integer under way has a column
abbrev pub Begun : FigureParts → Type 0
Begun f = Fit f.value f.count × (1 ≤ f.start)
