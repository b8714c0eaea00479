-- Work on one row of a table: the rest of the table stays as it is.
use Rattle.std.proofs.Common.{◌≡◌, ℕ, ◌+◌, ◌-◌, ◌*◌, ◌<◌, ◌≤◌, min, true, false, cond, List, [], ◌∷◌, ◌++◌, length, get_or, take, drop, set, None, Some, Ok, Err, Result, append_assoc, sym, refl, ap, ◌∙◌, subst, ap₂, mul-le-mul_right, add-mul, one-mul, arith, length-drop, take-append-drop, length-take, get_or-drop, get_or-take, drop-drop, drop-set-lt}
use native.Mathlib.Decide.{dec_le}
use Rattle.std.proofs.lemmas.List.{take_more_set, drop_more, drop_all, get_or_read}
use lib.Seq.{take-set-le, drop-set-add, take-set-lt}
use Rattle.exact.specs.declared.fault.NumberFault.{NumberFault}
use Rattle.rows.specs.declared.fault.RowFault.{RowFault}
use Rattle.exact.specs.Kind.{Kind}
use Rattle.rows.specs.Row.{at, placed, done, by_column, instead, swept, Leaves, less_row, less_swept, cleared, clear_swept}
use Rattle.rows.specs.Table.{row_of, with_row}
use Rattle.rows.proofs.Ops.{cleared_is}
use Rattle.rows.proofs.Sweeps.{At, answer_more, answer_stop, rest_row, leaves_swept}

-- ---- one row, column by column
module _ {V : Type 0} (op : ℕ → V → Result V NumberFault) where
  pub at_start : (w : List V) → At op w 0 w
  at_start w = record { answer = refl; row = refl }

  head_is : (w : List V) (i : ℕ) (x : V) → i < length w → x ≡ get_or w i x → drop i w ≡ x ∷ drop (i + 1) w
  head_is w i x h e = drop_more w i x h ∙ ap (λ y. y ∷ drop (i + 1) w) (sym e)

  instead_ok : (i : ℕ) (o : Result V NumberFault) (v x : V) (xs rest : List V) → placed i o ≡ Ok v → instead o x xs rest ≡ v ∷ rest
  instead_ok i (Ok u) v x xs rest e = let d : u ≡ v = cc in ap (λ y. y ∷ rest) d
  instead_ok i (Err f) v x xs rest e = let z : ◌≡◌ {A = ℕ} 0 1 = cc in absurd (omega arith)

  instead_err : (i : ℕ) (o : Result V NumberFault) (f : RowFault) (x : V) (xs rest : List V) → placed i o ≡ Err f → instead o x xs rest ≡ x ∷ xs
  instead_err i (Ok u) f x xs rest e = let z : ◌≡◌ {A = ℕ} 0 1 = cc in absurd (omega arith)
  instead_err i (Err g) f x xs rest e = refl

  pub at_more : (w₀ w : List V) (i : ℕ) (x v : V) → i < length w → x ≡ get_or w i x → placed i (op i x) ≡ Ok v → At op w₀ i w → At op w₀ (i + 1) (set w i v)
  at_more w₀ w i x v h e k a =
      let rest : drop (i + 1) (set w i v) ≡ drop (i + 1) w = drop-set-lt (i + 1) w i v (omega arith) in
      let tail = swept op (i + 1) (drop (i + 1) w) in
      let here : swept op i (drop i w) ≡ v ∷ tail = ap (swept op i) (head_is w i x h e) ∙ instead_ok i (op i x) v x (drop (i + 1) w) tail k in
      record {
        answer = a.answer ∙ ap (λ l. done (by_column op i l)) (head_is w i x h e) ∙ answer_more op i x v (drop (i + 1) w) k ∙ ap (λ l. done (by_column op (i + 1) l)) (sym rest);
        row = a.row ∙ ap (λ l. take i w ++ l) here ∙ sym (append_assoc (take i w) (v ∷ []) tail)
            ∙ ap (λ l. l ++ tail) (sym (take_more_set w i v h)) ∙ ap (λ l. take (i + 1) (set w i v) ++ swept op (i + 1) l) (sym rest);
      }

  pub at_stop : (w₀ w : List V) (i : ℕ) (x : V) (f : RowFault) → i < length w → x ≡ get_or w i x → placed i (op i x) ≡ Err f → At op w₀ i w → (done (by_column op 0 w₀) ≡ Err f) × (swept op 0 w₀ ≡ w)
  at_stop w₀ w i x f h e k a =
      let head = head_is w i x h e in (
        a.answer ∙ ap (λ l. done (by_column op i l)) head ∙ answer_stop op i x f (drop (i + 1) w) k,
        a.row ∙ ap (λ l. take i w ++ l) (ap (swept op i) head ∙ instead_err i (op i x) f x (drop (i + 1) w) (swept op (i + 1) (drop (i + 1) w)) k ∙ sym head) ∙ take-append-drop i w,
      )

  -- the work has come to a column from which on the row stays as it is
  at_rest : (w₀ w : List V) (i : ℕ) → by_column op i (drop i w) ≡ Ok (drop i w) → At op w₀ i w → (done (by_column op 0 w₀) ≡ Ok tt) × (swept op 0 w₀ ≡ w)
  at_rest w₀ w i k a =
      let stays : swept op i (drop i w) ≡ drop i w = subst (λ m. Leaves m (swept op i (drop i w))) k (leaves_swept op i (drop i w)) in
      (a.answer ∙ ap done k, a.row ∙ ap (λ l. take i w ++ l) stays ∙ take-append-drop i w)

  -- the end of a loop as far as the row goes and m columns, past which it stays as it is
  pub at_end : (w₀ w : List V) (i m : ℕ) → min (length w) m ≤ i → ((u : ℕ) (x : V) → m ≤ u → op u x ≡ Ok x) → At op w₀ i w → (done (by_column op 0 w₀) ≡ Ok tt) × (swept op 0 w₀ ≡ w)
  at_end w₀ w i m h k a = go (dec_le m i)
    where
      go : Dec (m ≤ i) → (done (by_column op 0 w₀) ≡ Ok tt) × (swept op 0 w₀ ≡ w)
      go (yes b) = at_rest w₀ w i (rest_row op i (drop i w) (λ u x l. k u x (omega arith))) a
      go (no b) = at_rest w₀ w i (subst (λ l. by_column op i l ≡ Ok l) (sym (drop_all i w (omega arith))) refl) a

-- a column that is 0 already, and one that is not
module _ {V : Type 0} (K : Kind V) (s : ℕ) (w r : List V) (x : V) (e : at K w s ≡ x) where
  pub cleared_zero : K.is_zero x ≡ true → (cleared K s w r ≡ Ok w) × (clear_swept K s w r ≡ w)
  cleared_zero z = cleared_is K s w r None (sym (ap (λ b. cond b None (Some (at K w s))) (ap K.is_zero e ∙ z)))

  pub cleared_less : K.is_zero x ≡ false → (cleared K s w r ≡ less_row K x w r) × (clear_swept K s w r ≡ less_swept K x w r)
  cleared_less z = cleared_is K s w r (Some x) (sym (ap (λ b. cond b None (Some (at K w s))) (ap K.is_zero e ∙ z) ∙ ap Some e))

-- ---- one row of a table

-- a row that begins before another ends before it
pub row_before : (width a b : ℕ) → a * width < b * width → a * width + width ≤ b * width
row_before width a b h = go (dec_le b a)
  where
    go : Dec (b ≤ a) → a * width + width ≤ b * width
    go (yes l) = let up : b * width ≤ a * width = mul-le-mul_right width l in absurd (omega (arith, up, h))
    go (no l) =
        let up : (a + 1) * width ≤ b * width = mul-le-mul_right width (omega arith) in
        let e : (a + 1) * width ≡ a * width + width = rw (add-mul, one-mul) in
        omega (arith, up, e)

module _ {V : Type 0} (op : ℕ → V → Result V NumberFault) (width j : ℕ) (m₀ : List V) where
  abbrev pub start : ℕ
  start = j * width

  -- the work has come to the column i of the row, and the table is now m
  pub record Reached (i : ℕ) (m : List V) : Type 0 where
    pub row : At op (row_of width m₀ j) i (row_of width m j)
    pub before : take start m ≡ take start m₀
    pub ahead : drop (start + i) m ≡ drop (start + i) m₀

  pub reached_start : Reached 0 m₀
  reached_start = record { row = at_start op (row_of width m₀ j); before = refl; ahead = refl }

  module _ (i : ℕ) (m : List V) (r : Reached i m) where
    -- a number of a row that is not yet worked on, or of another row
    pub unchanged : (by : ℕ) (d : V) → i < width → get_or m (by * width + i) d ≡ get_or m₀ (by * width + i) d
    unchanged by d h = go (dec_le start (by * width))
      where
        go : Dec (start ≤ by * width) → get_or m (by * width + i) d ≡ get_or m₀ (by * width + i) d
        go (yes l) =
            let e : by * width + i ≡ start + i + (by * width - start) = omega arith in
            ap (λ k. get_or m k d) e ∙ sym (get_or-drop (start + i) m (by * width - start) d) ∙ ap (λ l. get_or l (by * width - start) d) r.ahead
            ∙ get_or-drop (start + i) m₀ (by * width - start) d ∙ ap (λ k. get_or m₀ k d) (sym e)
        go (no l) =
            let b : by * width + i < start = let u = row_before width by j (omega arith) in omega (arith, u) in
            sym (get_or-take start m (by * width + i) d b) ∙ ap (λ l. get_or l (by * width + i) d) r.before ∙ get_or-take start m₀ (by * width + i) d b

    row_set : (v : V) → i < width → row_of width (set m (start + i) v) j ≡ set (row_of width m j) i v
    row_set v h = ap (take width) (drop-set-add start m i v) ∙ take-set-lt width (drop start m) i v h

    row_length : length (row_of width m j) ≡ min width (length m - start)
    row_length = length-take width (drop start m) ∙ ap (min width) (length-drop start m)

    pub row_number : (x : V) → i < width → x ≡ get_or m (start + i) x → x ≡ get_or (row_of width m j) i x
    row_number x h e = e ∙ sym (get_or-take width (drop start m) i x h ∙ get_or-drop start m i x)

    pub reached_more : (x v : V) → i < width → start + i < length m → x ≡ get_or m (start + i) x → placed i (op i x) ≡ Ok v → Reached (i + 1) (set m (start + i) v)
    reached_more x v h b e k =
        record {
          row = subst (λ w. At op (row_of width m₀ j) (i + 1) w) (sym (row_set v h))
              (at_more op (row_of width m₀ j) (row_of width m j) i x v (let l = row_length in omega (arith, l)) (row_number x h e) k r.row);
          before = take-set-le start m (start + i) v (omega arith) ∙ r.before;
          ahead = ap (λ n. drop n (set m (start + i) v)) (omega arith) ∙ drop-set-lt (start + i + 1) m (start + i) v (omega arith) ∙ sym (drop-drop 1 (start + i) m)
              ∙ ap (drop 1) r.ahead ∙ drop-drop 1 (start + i) m₀ ∙ ap (λ n. drop n m₀) (omega arith);
        }

    -- the table, by what the row then is
    pub table_after : i ≤ width → (w : List V) → w ≡ row_of width m j → m ≡ with_row width m₀ j w
    table_after h w e =
        let past : drop (start + width) m ≡ drop (start + width) m₀ =
        ap (λ n. drop n m) (omega arith) ∙ sym (drop-drop (width - i) (start + i) m) ∙ ap (drop (width - i)) r.ahead ∙ drop-drop (width - i) (start + i) m₀ ∙ ap (λ n. drop n m₀) (omega arith) in
        sym (take-append-drop start m) ∙ ap (λ l. take start m ++ l) (sym (take-append-drop width (drop start m)) ∙ ap (λ l. row_of width m j ++ l) (drop-drop width start m))
        ∙ ap₂ (λ a b. a ++ (row_of width m j ++ b)) r.before past ∙ ap (λ u. take start m₀ ++ (u ++ drop (start + width) m₀)) (sym e)

    -- the number of a row of the table as it was, read from the table as it is
    pub number_of : (by : ℕ) (y d : V) → i < width → i < length (row_of width m₀ by) → y ≡ get_or m (by * width + i) y → y ≡ get_or (row_of width m₀ by) i d
    number_of by y d h b e =
        get_or_read (row_of width m₀ by) i y b (e ∙ unchanged by y h ∙ sym (get_or-take width (drop (by * width) m₀) i y h ∙ get_or-drop (by * width) m₀ i y)) d

pub row_long : {V : Type 0} (width : ℕ) (m : List V) (j : ℕ) → length (row_of width m j) ≡ min width (length m - j * width)
row_long width m j = length-take width (drop (j * width) m) ∙ ap (min width) (length-drop (j * width) m)

-- a row put back as it was
pub same_row : {V : Type 0} (width : ℕ) (m : List V) (j : ℕ) → with_row width m j (row_of width m j) ≡ m
same_row width m j =
    ap (λ l. take (j * width) m ++ l) (ap (λ l. row_of width m j ++ l) (sym (drop-drop width (j * width) m)) ∙ take-append-drop width (drop (j * width) m)) ∙ take-append-drop (j * width) m
