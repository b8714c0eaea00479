-- The working row written over, through the range that it has.
use Rattle.std.proofs.Common.{◌≡◌, ℕ, ◌+◌, ◌-◌, ◌<◌, ◌≤◌, List, length, get_or, take, drop, sym, ap, ◌∙◌, subst, arith}
use borrow.Rule.Slice.PartMut.{put_mid}
use Rattle.exact.specs.Kind.{Kind}
use Rattle.rows.specs.Row.{at}
use Rattle.rows.proofs.Ops.{at_is}
use Rattle.elimination.specs.declared.held.Held.{Held}
use Rattle.elimination.specs.Held.{wide, needed, lines_place, row_place, row_at, lines_of, row_of, OnlyRow}
use Rattle.elimination.proofs.Frames.{part_own, only_put, only_held, only_lines}
use Rattle.elimination.proofs.Places.{row_fits, row_length}
use Rattle.elimination.proofs.Ranges.{part, put}

module _ {V : Type 0} (h : Held) (m : List V) (room : needed h.n ≤ length m) {s e : ℕ} (start : s ≡ row_place h.n (length h.entries.now)) (end : e ≡ row_place h.n (length h.entries.now) + wide h.n) where
  fits : row_place h.n (length h.entries.now) + wide h.n ≤ length m
  fits = let f = row_fits h.n (length h.entries.now) h.held in omega (arith, f, room)

  pub row_part : take (e - s) (drop s m) ≡ row_of h m
  row_part = part (wide h.n) start end m

  -- a number of it
  pub number_is : (K : Kind V) (q : ℕ) (x : V) → q < wide h.n → x ≡ get_or (take (e - s) (drop s m)) q x → x ≡ at K (row_of h m) q
  number_is K q x below is =
      let size = row_length h.n (length h.entries.now) m fits in
      sym (at_is K (row_of h m) q x (omega (arith, size, below)) (is ∙ ap (λ l. get_or l q x) row_part))

  module _ (v : List V) (same : length v ≡ length (take (e - s) (drop s m))) where
    long : length v ≡ wide h.n
    long = same ∙ ap length row_part ∙ row_length h.n (length h.entries.now) m fits

    new : put_mid s (e - s) m v ≡ put_mid (row_place h.n (length h.entries.now)) (wide h.n) m v
    new = put (wide h.n) start end m v

    only : OnlyRow h.n (length h.entries.now) m (put_mid s (e - s) m v)
    only = subst (OnlyRow h.n (length h.entries.now) m) (sym new) (only_put h.n (length h.entries.now) m v fits long)

    pub row_written : row_of h (put_mid s (e - s) m v) ≡ v
    row_written = ap (λ u. row_at h.n u (length h.entries.now)) new ∙ part_own (row_place h.n (length h.entries.now)) (wide h.n) m v fits long

    pub others_kept : lines_of h (put_mid s (e - s) m v) ≡ lines_of h m
    others_kept = only_held h.n (length h.entries.now) m (put_mid s (e - s) m v) only h.held h.entries.now (omega arith)

    pub numbers_kept : drop (lines_place h.n) (put_mid s (e - s) m v) ≡ drop (lines_place h.n) m
    numbers_kept = only_lines h.n (length h.entries.now) m (put_mid s (e - s) m v) only h.held
