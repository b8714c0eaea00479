-- What holds of the waits in a list.
use Rattle.std.specs.Prelude.{◌≤◌, List, ◌≢◌, All, AllPairs}
use Rattle.ledger.specs.declared.wait.Wait.{Wait}

-- they are for set points from 1 to 48
abbrev pub Points : List Wait → Type 0
Points = All (λ w. (1 ≤ w.set_point) × (w.set_point ≤ 48))

-- no two of them are for the same set point
abbrev pub Apart : List Wait → Type 0
Apart = AllPairs (λ v w. v.set_point ≢ w.set_point)
