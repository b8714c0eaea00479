-- The labels of an input's lines.
use Rattle.std.specs.Prelude.{◌≤◌}
use Rattle.std.specs.List.{AllByRecursion}
use Rattle.cutting.specs.declared.lines.Lines.{Lines}
use Rattle.cutting.specs.Taken.{named}

-- no label is beyond the bytes of the longest input
abbrev pub Counted : Lines → Type 0
Counted l = AllByRecursion (λ p. p.0 ≤ 16384) (named l)
