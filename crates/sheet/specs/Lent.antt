-- What a call leaves of the memory that is lent to a sheet, s before the call and s' after it.
use Rattle.std.specs.Prelude.{◌≡◌, drop}
use Rattle.elimination.specs.Held.{used}
use Rattle.sheet.specs.declared.sheet.Sheet.{Sheet}
use Rattle.sheet.specs.Contents.{contents}

module _ {V : Type 0} (s s' : Sheet V) where
  -- the reference is the lender's own
  abbrev pub SameLender : Type 0
  SameLender = s'.memory.ghost_name ≡ s.memory.ghost_name

  -- nothing is written
  abbrev pub SameMemory : Type 0
  SameMemory = s'.memory.now ≡ s.memory.now

  -- nothing is written past the numbers that the sheet uses
  abbrev pub SameRest : Type 0
  SameRest = drop (used (contents s).n) s'.memory.now ≡ drop (used (contents s).n) s.memory.now
