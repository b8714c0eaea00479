-- The turns of a loop that works through a row, column by column.
use Rattle.std.proofs.Common.{◌≡◌, ℕ, zero, suc, ◌+◌, ◌<◌, ◌≤◌, min, List, [], ◌∷◌, ◌++◌, length, get_or, take, drop, Ok, Err, Result, sym, refl, ap, ◌∙◌, subst, arith, take-append-drop, length-drop}
use Rattle.std.specs.Result.{MatchResult, IsErrAnd}
use Rattle.std.proofs.lemmas.List.{drop_more, drop_all, take_all, append-nil}
use native.Mathlib.Decide.{dec_le}
use Rattle.exact.specs.declared.fault.NumberFault.{NumberFault}
use Rattle.rows.specs.declared.fault.RowFault.{RowFault}
use Rattle.rows.specs.Row.{placed, ahead, onto, by_column, instead, swept, done, Leaves, Keeps, Does}

-- the answer of a number, once its fault has its column
pub placed_is : {X : Type 0} (i : ℕ) (o : Result X NumberFault) (r : Result X RowFault) {P : NumberFault → RowFault → Type 0} → MatchResult o (λ x. r ≡ Ok x) (λ e. IsErrAnd r (P e))
    → ((e : NumberFault) (f : RowFault) → P e f → f ≡ record { column = i + 1; fault = e }) → r ≡ placed i o
placed_is i (Ok x) r m k = m
placed_is i (Err e) (Ok x) m k = absurd m
placed_is i (Err e) (Err f) m k = ap Err (k e f m)

-- the answer that a `?` passes on
pub passed : (r : Result Unit RowFault) (f : RowFault) → IsErrAnd r (λ e. e ≡ f) → r ≡ Err f
passed (Ok x) f h = absurd h
passed (Err e) f h = ap Err h

-- what stands next in a row, of which the rest is known
pub next_is : {V : Type 0} (d : V) (l : List V) (i : ℕ) (y : V) (ys : List V) → y ∷ ys ≡ drop i l → (i < length l) × (y ≡ get_or l i d) × (ys ≡ drop (i + 1) l)
next_is d l i y ys e =
    let h : i < length l = omega (arith, length-drop i l, ap length e) in
    let k : y ∷ ys ≡ get_or l i d ∷ drop (i + 1) l = e ∙ drop_more l i d h in
    (h, cc, cc)

done_ahead : {V : Type 0} (v : V) (m : Result (List V) RowFault) → done (ahead v m) ≡ done m
done_ahead v (Ok vs) = refl
done_ahead v (Err f) = refl

module _ {V : Type 0} (op : ℕ → V → Result V NumberFault) where
  -- the answer from a column on, at a number that goes through, and at one that does not
  pub answer_more : (i : ℕ) (x v : V) (xs : List V) → placed i (op i x) ≡ Ok v → done (by_column op i (x ∷ xs)) ≡ done (by_column op (i + 1) xs)
  answer_more i x v xs k = ap (λ m. done (onto m (by_column op (i + 1) xs))) k ∙ done_ahead v (by_column op (i + 1) xs)

  pub answer_stop : (i : ℕ) (x : V) (f : RowFault) (xs : List V) → placed i (op i x) ≡ Err f → done (by_column op i (x ∷ xs)) ≡ Err f
  answer_stop i x f xs k = ap (λ m. done (onto m (by_column op (i + 1) xs))) k

  -- columns from i on that stay as they are
  pub rest_row : (i : ℕ) (xs : List V) → ((u : ℕ) (x : V) → i ≤ u → op u x ≡ Ok x) → by_column op i xs ≡ Ok xs
  rest_row i [] k = refl
  rest_row i (x ∷ xs) k = ap (λ o. onto (placed i o) (by_column op (i + 1) xs)) (k i x (omega arith)) ∙ ap (ahead x) (rest_row (i + 1) xs (λ u y b. k u y (omega arith)))

  -- what is left is the row, if it goes through
  pub leaves_swept : (i : ℕ) (xs : List V) → Leaves (by_column op i xs) (swept op i xs)
  leaves_swept i [] = refl
  leaves_swept i (x ∷ xs) = go (op i x) (by_column op (i + 1) xs) (leaves_swept (i + 1) xs)
    where
      go : (o : Result V NumberFault) (m : Result (List V) RowFault) → Leaves m (swept op (i + 1) xs) → Leaves (onto (placed i o) m) (instead o x xs (swept op (i + 1) xs))
      go (Ok y) (Ok ys) d = ap (λ l. y ∷ l) d
      go (Ok y) (Err f) d = tt
      go (Err f) m d = tt

  -- the work on the row w₀ has come to the column i, and the row is now w
  pub record At (w₀ : List V) (i : ℕ) (w : List V) : Type 0 where
    pub answer : done (by_column op 0 w₀) ≡ done (by_column op i (drop i w))
    pub row : swept op 0 w₀ ≡ take i w ++ swept op i (drop i w)

  does : (w₀ w : List V) (r : Result Unit RowFault) → done (by_column op 0 w₀) ≡ r → swept op 0 w₀ ≡ w → Does op w₀ r w
  does w₀ w r e d = record { answer = sym e; made = subst (Leaves (by_column op 0 w₀)) d (leaves_swept 0 w₀); left = sym d }

  -- the end at the row's end
  pub at_all : (w₀ w : List V) (i : ℕ) → length w ≤ i → At w₀ i w → Does op w₀ (Ok tt) w
  at_all w₀ w i h a =
      let none = drop_all i w h in
      does w₀ w (Ok tt) (a.answer ∙ ap (λ l. done (by_column op i l)) none) (a.row ∙ ap (λ l. take i w ++ l) (ap (swept op i) none ∙ sym none) ∙ take-append-drop i w)

  -- work on the first k columns, where the others stay as they are
  first_is : (i k : ℕ) (w : List V) → ((u : ℕ) (x : V) → i + k ≤ u → op u x ≡ Ok x) → (done (by_column op i w) ≡ done (by_column op i (take k w))) × (swept op i w ≡ swept op i (take k w) ++ drop k w)
  first_is i zero w keeps =
      let rest : by_column op i w ≡ Ok w = rest_row i w (λ u x l. keeps u x (omega arith)) in
      (ap done rest, subst (λ m. Leaves m (swept op i w)) rest (leaves_swept i w))
  first_is i (suc k) [] keeps = (refl, refl)
  first_is i (suc k) (x ∷ xs) keeps = go (op i x) (first_is (i + 1) k xs (λ u y l. keeps u y (omega arith)))
    where
      go : (o : Result V NumberFault) → (done (by_column op (i + 1) xs) ≡ done (by_column op (i + 1) (take k xs))) × (swept op (i + 1) xs ≡ swept op (i + 1) (take k xs) ++ drop k xs)
          → (done (onto (placed i o) (by_column op (i + 1) xs)) ≡ done (onto (placed i o) (by_column op (i + 1) (take k xs))))
          × (instead o x xs (swept op (i + 1) xs) ≡ instead o x (take k xs) (swept op (i + 1) (take k xs)) ++ drop k xs)
      go (Ok v) e = (done_ahead v (by_column op (i + 1) xs) ∙ e.0 ∙ sym (done_ahead v (by_column op (i + 1) (take k xs))), ap (λ l. v ∷ l) e.1)
      go (Err f) e = (refl, ap (λ l. x ∷ l) (sym (take-append-drop k xs)))

  pub does_first : (w₀ w : List V) (m k : ℕ) (r : Result Unit RowFault) → k ≡ min m (length w₀) → Keeps m op → Does op (take k w₀) r w → Does op w₀ r (w ++ drop k w₀)
  does_first w₀ w m k r e keeps d = go (dec_le m (length w₀))
    where
      go : Dec (m ≤ length w₀) → Does op w₀ r (w ++ drop k w₀)
      go (yes l) =
          let f = first_is 0 k w₀ (λ u x b. keeps u x (omega (arith, e, l, b))) in
          does w₀ (w ++ drop k w₀) r (f.0 ∙ sym d.answer) (f.1 ∙ ap (λ l. l ++ drop k w₀) (sym d.left))
      go (no b) =
          let h : length w₀ ≤ k = omega (arith, e, b) in
          subst (Does op w₀ r) (sym (ap (λ l. w ++ l) (drop_all k w₀ h) ∙ append-nil w)) (subst (λ l. Does op l r w) (take_all k w₀ h) d)

  -- an operation that always goes through
  pub always : ((u : ℕ) (x : V) → (v : V) × (op u x ≡ Ok v)) → (i : ℕ) (w : List V) → done (by_column op i w) ≡ Ok tt
  always k i [] = refl
  always k i (x ∷ xs) =
      ap (λ o. done (onto (placed i o) (by_column op (i + 1) xs))) (k i x).1 ∙ done_ahead (k i x).0 (by_column op (i + 1) xs) ∙ always k (i + 1) xs

  instead_length : (o : Result V NumberFault) (x : V) (xs rest : List V) → length rest ≡ length xs → length (instead o x xs rest) ≡ suc (length xs)
  instead_length (Ok v) x xs rest e = ap suc e
  instead_length (Err f) x xs rest e = refl

  pub swept_length : (i : ℕ) (xs : List V) → length (swept op i xs) ≡ length xs
  swept_length i [] = refl
  swept_length i (x ∷ xs) = instead_length (op i x) x xs (swept op (i + 1) xs) (swept_length (i + 1) xs)
