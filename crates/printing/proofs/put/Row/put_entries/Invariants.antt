use Rattle.std.proofs.Common.{◌≡◌, ◌+◌, ◌*◌, ◌≤◌, ◌++◌, length, take}
use Rattle.std.specs.List.{flat_map}
use Rattle.printing.specs.Rows.{entry_text}
use Rattle.printing.proofs.put.Row.put_entries.Given as goal

abbrev pub invariant-loop-entry : goal.invariant-loop-entry
invariant-loop-entry g l =
    (l.self.text.bytes ≡ l.initial.self.text.bytes ++ flat_map entry_text (take l.entry-index l.entries))
    × (length l.self.text.bytes ≤ length l.initial.self.text.bytes + 34 * l.entry-index)
