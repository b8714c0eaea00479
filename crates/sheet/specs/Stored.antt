-- All that a sheet stores: its contents, and beside them the open trials and the waits.
use Rattle.std.specs.Prelude.{ℕ, List, []}
use Rattle.ledger.specs.Marked.{marked}
use Rattle.ledger.specs.Waiting.{waiting}
use Rattle.elimination.specs.Held.{HeldLine}
use Rattle.sheet.specs.declared.sheet.Sheet.{Sheet}
use Rattle.sheet.specs.Contents.{Contents, contents}

-- for each open trial, the newest first, how many lines were held when it was opened; and the set points that are waited for, the oldest
-- wait first
pub record Stored (V : Type 0) : Type 0 where
  pub contents : Contents V
  pub marks : List ℕ
  pub waits : List ℕ

unfoldable pub stored : {V : Type 0} → Sheet V → Stored V
stored s = record { contents = contents s; marks = marked s.marks; waits = waiting s.waits }

-- no trial is open, and none waits
abbrev pub unopened : {V : Type 0} → Contents V → Stored V
unopened C = record { contents = C; marks = []; waits = [] }

-- one part changed
module _ {V : Type 0} (S : Stored V) where
  abbrev pub with_contents : Contents V → Stored V
  with_contents C = record { contents = C; marks = S.marks; waits = S.waits }

  abbrev pub with_held : List (HeldLine V) → Stored V
  with_held hs = with_contents (record { n = S.contents.n; number = S.contents.number; held = hs })

  abbrev pub with_marks : List ℕ → Stored V
  with_marks ms = record { contents = S.contents; marks = ms; waits = S.waits }

  abbrev pub with_waits : List ℕ → Stored V
  with_waits ps = record { contents = S.contents; marks = S.marks; waits = ps }
