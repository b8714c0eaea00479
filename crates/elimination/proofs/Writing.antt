-- The numbers of a new held line in memory: the rows, the other lines and what lies past the sheet stay as they are.
use Rattle.std.proofs.Common.{◌≡◌, ℕ, ◌+◌, ◌<◌, ◌≤◌, List, length, arith}
use Rattle.ledger.specs.declared.entry.Entry.{Entry}
use Rattle.elimination.specs.Held.{wide, row_place, line_place, row_at, held_lines, OtherLines}
use Rattle.elimination.proofs.Frames.{SameAt, held_same, part_under}
use Rattle.elimination.proofs.Places.{row_line, line_next}

module _ {V : Type 0} (n h : ℕ) (m m' : List V) (others : OtherLines n h m m') where
  pub row_kept : (i : ℕ) → i ≤ n → row_at n m' i ≡ row_at n m i
  row_kept i b = part_under m m' (line_place n h) (row_place n i) (wide n) (row_line n i h b) others

  other : (i : ℕ) → i < h → i ≤ n → SameAt n m m' i
  other i b c = (row_kept i c, part_under m m' (line_place n h) (line_place n i) (n + 1) (line_next n i h b) others)

  pub others_held : (es : List Entry) → length es ≤ h → h ≤ n → held_lines n m' 0 es ≡ held_lines n m 0 es
  others_held es e b = held_same n m m' 0 es (λ i _ c. other i (omega arith) (omega arith))
