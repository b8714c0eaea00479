use Rattle.std.specs.Prelude.{ℕ, ◌<◌, List, All}
use Rattle.ledger.specs.declared.entry.Entry.{Entry}

abbrev pub blank : Entry
blank = record { label = 0; subject = 0 }

-- the subjects of the entries are set points
abbrev pub Subjects : (n : ℕ) → List Entry → Type 0
Subjects n = All (λ e. e.subject < n)
