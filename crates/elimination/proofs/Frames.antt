-- What a write to a part of the memory leaves of the held lines.
use Rattle.std.proofs.Common.{◌≡◌, ℕ, suc, ◌+◌, ◌-◌, ◌<◌, ◌≤◌, List, [], ◌∷◌, ◌++◌, length, take, drop, sym, refl, ap, ◌∙◌, ap₂, arith, take-take}
use Rattle.std.proofs.Common.{drop-drop}
use borrow.Rule.Slice.PartMut.{put_mid}
use Rattle.std.proofs.lemmas.List.{drop-take}
use Rattle.std.proofs.lemmas.Slice.{take-put_mid_below, drop-put_mid, between-put_mid}
use Rattle.ledger.specs.declared.entry.Entry.{Entry}
use Rattle.rows.specs.Table as table
use Rattle.elimination.specs.Held.{wide, lines_place, row_place, line_place, row_at, line_at, held_line, held_lines, OnlyRow}
use Rattle.elimination.specs.Held.{needed}
use Rattle.elimination.proofs.Places.{row_next, row_line, rest_past}
use Rattle.elimination.proofs.Places.{row_fits}

-- ---- a part of a memory after another was written
module _ {V : Type 0} (a k : ℕ) (m v : List V) (fits : a + k ≤ length m) (long : length v ≡ k) where
  pub part_before : (b w : ℕ) → b + w ≤ a → take w (drop b (put_mid a k m v)) ≡ take w (drop b m)
  part_before b w h =
      sym (drop-take b w (put_mid a k m v)) ∙ ap (drop b) (take-put_mid_below a k m v (b + w) h (omega arith)) ∙ drop-take b w m

  pub part_after : (b w : ℕ) → a + k ≤ b → take w (drop b (put_mid a k m v)) ≡ take w (drop b m)
  part_after b w h = ap (take w) (drop-put_mid a k m v b h (omega arith) long)

  pub part_own : take k (drop a (put_mid a k m v)) ≡ v
  part_own = ap (λ i. take i (drop a (put_mid a k m v))) e ∙ between-put_mid a k m v (a + k) (omega arith) (long ∙ e)
    where
      e : k ≡ a + k - a
      e = omega arith

-- ---- held lines over another memory
module _ {V : Type 0} (n : ℕ) (m m' : List V) where
  abbrev pub SameAt : ℕ → Type 0
  SameAt i = (row_at n m' i ≡ row_at n m i) × (line_at n m' i ≡ line_at n m i)

  pub line_same : (j : ℕ) (e : Entry) → SameAt j → held_line n m' j e ≡ held_line n m j e
  unfolding held_line
  line_same j e s = ap₂ (λ l r. record { label = e.label; subject = e.subject; line = l; row = r }) s.1 s.0

  pub held_same : (j : ℕ) (es : List Entry) → ((i : ℕ) → j ≤ i → i < j + length es → SameAt i) → held_lines n m' j es ≡ held_lines n m j es
  held_same j [] s = refl
  held_same j (e ∷ es) s = ap₂ (λ h hs. h ∷ hs) (line_same j e (s j (omega arith) (omega arith))) (held_same (j + 1) es (λ i b c. s i (omega arith) (omega arith)))

pub held_more : {V : Type 0} (n : ℕ) (m : List V) (j : ℕ) (es : List Entry) (e : Entry) → held_lines n m j (es ++ e ∷ []) ≡ held_lines n m j es ++ held_line n m (j + length es) e ∷ []
held_more n m j [] e = ap (λ i. held_line n m i e ∷ []) (omega arith)
held_more n m j (x ∷ es) e = ap (λ hs. held_line n m j x ∷ hs) (held_more n m (j + 1) es e ∙ ap (λ i. held_lines n m (j + 1) es ++ held_line n m i e ∷ []) (omega arith))

pub held_length : {V : Type 0} (n : ℕ) (m : List V) (j : ℕ) (es : List Entry) → length (held_lines n m j es) ≡ length es
held_length n m j [] = refl
held_length n m j (e ∷ es) = ap suc (held_length n m (j + 1) es)

-- ---- what lies before and after a place that two memories agree up to, or from
module _ {V : Type 0} (m m' : List V) where
  pub part_under : (a b w : ℕ) → b + w ≤ a → take a m' ≡ take a m → take w (drop b m') ≡ take w (drop b m)
  part_under a b w h e =
      sym (drop-take b w m') ∙ ap (drop b) (sym (take-take (b + w) a m' h) ∙ ap (take (b + w)) e ∙ take-take (b + w) a m h) ∙ drop-take b w m

  pub part_over : (a b w : ℕ) → a ≤ b → drop a m' ≡ drop a m → take w (drop b m') ≡ take w (drop b m)
  part_over a b w h e = ap (take w) (rest_past a b h m' m e)

-- ---- one row
pub put_row : {V : Type 0} (n : ℕ) (m : List V) (j : ℕ) (v : List V) → table.with_row (wide n) m j v ≡ put_mid (row_place n j) (wide n) m v
put_row n m j v = ap (λ l. take (row_place n j) m ++ (v ++ l)) (sym (drop-drop (wide n) (row_place n j) m))

module _ {V : Type 0} (n j : ℕ) where
  pub only_none : (m : List V) → OnlyRow n j m m
  only_none m = record { before = refl; after = refl }

  pub only_then : (m m' m'' : List V) → OnlyRow n j m m' → OnlyRow n j m' m'' → OnlyRow n j m m''
  only_then m m' m'' a b = record { before = b.before ∙ a.before; after = b.after ∙ a.after }

  pub only_put : (m v : List V) → row_place n j + wide n ≤ length m → length v ≡ wide n → OnlyRow n j m (put_mid (row_place n j) (wide n) m v)
  only_put m v inside long =
      record {
        before = take-put_mid_below (row_place n j) (wide n) m v (row_place n j) (omega arith) (omega arith);
        after = drop-put_mid (row_place n j) (wide n) m v (row_place n j + wide n) (omega arith) (omega arith) long;
      }

  module _ (m m' : List V) (only : OnlyRow n j m m') (b : j ≤ n) where
    pub only_same : (i : ℕ) → i < j → SameAt n m m' i
    only_same i l = (
      part_under m m' (row_place n j) (row_place n i) (wide n) (row_next n i j l) only.before,
      part_over m m' (row_place n j + wide n) (line_place n i) (n + 1) (row_line n j i b) only.after,
    )

    pub only_held : (es : List Entry) → length es ≤ j → held_lines n m' 0 es ≡ held_lines n m 0 es
    only_held es l = held_same n m m' 0 es (λ i _ c. only_same i (omega arith))

    pub only_rest : drop (needed n) m' ≡ drop (needed n) m
    only_rest = rest_past (row_place n j + wide n) (needed n) (row_fits n j b) m' m only.after

    pub only_lines : drop (lines_place n) m' ≡ drop (lines_place n) m
    only_lines = rest_past (row_place n j + wide n) (lines_place n) (let a = row_line n j 0 b in omega (arith, a)) m' m only.after
