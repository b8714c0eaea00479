-- The walk back: rows are rewritten one after the other, and nothing else.
use Rattle.std.proofs.Common.{◌≡◌, ℕ, ◌+◌, ◌<◌, ◌≤◌, List, [], ◌∷◌, ◌++◌, length, get_or, take, drop, Ok, Err, Result, sym, refl, ap, ◌∙◌, ap₂, append_assoc, append-nil, arith, length-take-le, take_all, drop-drop}
use borrow.Rule.Slice.PartMut.{put_mid}
use Rattle.std.proofs.lemmas.List.{take_more}
use Rattle.std.proofs.lemmas.Slice.{drop-put_mid}
use Rattle.exact.specs.Kind.{Kind}
use Rattle.ledger.specs.declared.entry.Entry.{Entry}
use Rattle.ledger.specs.Entries.{blank}
use Rattle.rows.specs.declared.fault.RowFault.{RowFault}
use Rattle.rows.specs.Row.{done, cleared}
use Rattle.elimination.specs.declared.fault.Step.TheVariants.{Back}
use Rattle.elimination.specs.declared.fault.StepFault.{StepFault}
use Rattle.elimination.specs.Held.{HeldLine, wide, needed, row_place, line_place, row_at, line_at, held_line, held_lines}
use Rattle.elimination.specs.Steps.{located, then, back, with_row}
use Rattle.elimination.proofs.Frames.{part_before, part_after, part_own, SameAt, held_same, held_more}
use Rattle.elimination.proofs.Places.{row_next, row_line, row_fits, row_after}
use Rattle.elimination.proofs.Walks.{here, later, lines_first, lines_end}

-- ---- the walk
abbrev before : {V : Type 0} → List (HeldLine V) → Result (List (HeldLine V)) StepFault → Result (List (HeldLine V)) StepFault
before front r = then r (λ rest. Ok (front ++ rest))

before_more : {V : Type 0} (front : List (HeldLine V)) (x : HeldLine V) (r : Result (List (HeldLine V)) StepFault) → before front (then r (λ rest. Ok (x ∷ rest))) ≡ before (front ++ x ∷ []) r
before_more front x (Ok rest) = ap Ok (sym (append_assoc front (x ∷ []) rest))
before_more front x (Err f) = refl

before_nothing : {V : Type 0} (r : Result (List (HeldLine V)) StepFault) → before [] r ≡ r
before_nothing (Ok rest) = refl
before_nothing (Err f) = refl

module _ {V : Type 0} (K : Kind V) (q n : ℕ) (w : List V) (es : List Entry) where
  -- the walk over the memory m₀ has come to the place j, and the memory is now m
  pub record Gone (m₀ : List V) (j : ℕ) (m : List V) : Type 0 where
    pub rows : back K q 1 w (held_lines n m₀ 0 es) ≡ before (held_lines n m 0 (take j es)) (back K q (j + 1) w (held_lines n m j (drop j es)))
    pub rest : drop (row_place n j) m ≡ drop (row_place n j) m₀

  pub gone_start : (m : List V) → Gone m 0 m
  gone_start m = record { rows = sym (before_nothing (back K q 1 w (held_lines n m 0 es))); rest = refl }

  module _ (m : List V) (j : ℕ) (h : j < length es) where
    abbrev pub row_here : Result (List V) RowFault
    row_here = cleared K q (row_at n m j) w

    -- the walk from the place j on, where its row goes through and where it does not
    back_more : (v : List V) → located Back (j + 1) row_here ≡ Ok v → back K q (j + 1) w (held_lines n m j (drop j es)) ≡ then (back K q (j + 1 + 1) w (later n m es j)) (λ rest. Ok (with_row K (here n m es j) v ∷ rest))
    unfolding held_line
    back_more v e = ap (back K q (j + 1) w) (lines_first n m es j h) ∙ ap (λ r. then r (λ u. then (back K q (j + 1 + 1) w (later n m es j)) (λ rest. Ok (with_row K (here n m es j) u ∷ rest)))) e

    pub back_stop : (f : StepFault) → located Back (j + 1) row_here ≡ Err f → back K q (j + 1) w (held_lines n m j (drop j es)) ≡ Err f
    unfolding held_line
    back_stop f e = ap (back K q (j + 1) w) (lines_first n m es j h) ∙ ap (λ r. then r (λ u. then (back K q (j + 1 + 1) w (later n m es j)) (λ rest. Ok (with_row K (here n m es j) u ∷ rest)))) e

    done_then : (x : HeldLine V) (r : Result (List (HeldLine V)) StepFault) → done (then r (λ rest. Ok (x ∷ rest))) ≡ done r
    done_then x (Ok rest) = refl
    done_then x (Err f) = refl

    pub would_more : (v : List V) → located Back (j + 1) row_here ≡ Ok v → done (back K q (j + 1) w (held_lines n m j (drop j es))) ≡ done (back K q (j + 1 + 1) w (later n m es j))
    would_more v e = ap done (back_more v e) ∙ done_then (with_row K (here n m es j) v) (back K q (j + 1 + 1) w (later n m es j))

    pub gone_stop : (m₀ : List V) (f : StepFault) → located Back (j + 1) row_here ≡ Err f → Gone m₀ j m → back K q 1 w (held_lines n m₀ 0 es) ≡ Err f
    gone_stop m₀ f e s = s.rows ∙ ap (before (held_lines n m 0 (take j es))) (back_stop f e)

    module _ (few : length es ≤ n) (room : needed n ≤ length m) (v : List V) (long : length v ≡ wide n) where
      at : ℕ
      at = row_place n j

      new : List V
      new = put_mid at (wide n) m v

      inside : at + wide n ≤ length m
      unfolding at
      inside = let f = row_fits n j (omega arith) in omega (arith, f)

      line_kept : (i : ℕ) → line_at n new i ≡ line_at n m i
      unfolding at new
      line_kept i = part_after at (wide n) m v inside long (line_place n i) (n + 1) (row_line n j i (omega arith))

      earlier : (i : ℕ) → i < j → SameAt n m new i
      unfolding at new
      earlier i b = (part_before at (wide n) m v inside long (row_place n i) (wide n) (row_next n i j b), line_kept i)

      further : (i : ℕ) → j < i → SameAt n m new i
      unfolding at new
      further i b = (part_after at (wide n) m v inside long (row_place n i) (wide n) (row_next n j i b), line_kept i)

      own : with_row K (here n m es j) v ≡ held_line n new j (get_or es j blank)
      unfolding held_line at new
      own = ap₂ (λ l r. record { label = (get_or es j blank).label; subject = (get_or es j blank).subject; line = l; row = r }) (sym (line_kept j)) (sym (part_own at (wide n) m v inside long))

      -- the row of the place j is written
      pub gone_more : (m₀ : List V) → located Back (j + 1) row_here ≡ Ok v → Gone m₀ j m → Gone m₀ (j + 1) (put_mid (row_place n j) (wide n) m v)
      unfolding at new
      gone_more m₀ e s =
          let front = held_lines n m 0 (take j es) in
          let x = get_or es j blank in
          let size : length (take j es) ≡ j = length-take-le j es (omega arith) in
          let up : front ++ held_line n new j x ∷ [] ≡ held_lines n new 0 (take (j + 1) es) =
          ap (λ hs. hs ++ held_line n new j x ∷ []) (sym (held_same n m new 0 (take j es) (λ i b c. earlier i (omega arith))))
          ∙ ap (λ i. held_lines n new 0 (take j es) ++ held_line n new i x ∷ []) (omega (arith, size))
          ∙ sym (held_more n new 0 (take j es) x) ∙ ap (held_lines n new 0) (sym (take_more es j blank h)) in
          record {
            rows = s.rows ∙ ap (before front) (back_more v e) ∙ before_more front (with_row K (here n m es j) v) (back K q (j + 1 + 1) w (later n m es j))
                ∙ ap (λ y. before (front ++ y ∷ []) (back K q (j + 1 + 1) w (later n m es j))) own
                ∙ ap₂ (λ l hs. before l (back K q (j + 1 + 1) w hs)) up (sym (held_same n m new (j + 1) (drop (j + 1) es) (λ i b c. further i (omega arith))));
            rest = let next = row_after n j in drop-put_mid (row_place n j) (wide n) m v (row_place n (j + 1)) (omega (arith, next)) (let f = inside in omega arith) long
                ∙ ap (λ i. drop i m) next ∙ sym (drop-drop (wide n) (row_place n j) m) ∙ ap (drop (wide n)) s.rest ∙ drop-drop (wide n) (row_place n j) m₀ ∙ ap (λ i. drop i m₀) (sym next);
          }

  pub gone_all : (m₀ m : List V) (j : ℕ) → length es ≤ j → Gone m₀ j m → back K q 1 w (held_lines n m₀ 0 es) ≡ Ok (held_lines n m 0 es)
  gone_all m₀ m j h s =
      s.rows ∙ ap (λ hs. before (held_lines n m 0 (take j es)) (back K q (j + 1) w hs)) (lines_end n m es j h)
      ∙ ap Ok (append-nil (held_lines n m 0 (take j es)) ∙ ap (held_lines n m 0) (take_all j es h))
