-- Reading rows off the memory.
use Rattle.std.proofs.Common.{◌≡◌, ℕ, zero, suc, ◌+◌, ◌-◌, ◌<◌, ◌≤◌, Bool, true, false, cond, eqb, List, [], ◌∷◌, length, get_or, take, drop, length-take-le, take-take, Some, None, Option, sym, refl, ap, ◌∙◌, subst, arith, get_or-take}
use Rattle.std.proofs.Common.{get_or-drop}
use native.Mathlib.Decide.{dec_le}
use Rattle.std.proofs.lemmas.Iterator.Adapters.{position_from-zero}
use Rattle.std.specs.Bool.{then_some}
use Rattle.std.specs.List.{position, position_from}
use Rattle.exact.specs.Kind.{Kind}
use Rattle.ledger.specs.declared.entry.Entry.{Entry}
use Rattle.rows.specs.Row.{at}
use Rattle.rows.proofs.Ops.{at_is}
use Rattle.elimination.specs.Held.{wide, used, row_place, row_at, held_line, held_lines}
use Rattle.elimination.proofs.Places.{row_fits, row_length}
use Rattle.elimination.proofs.Verdicts.{used_all}
use Rattle.sheet.specs.Reading.{row_for, alone}

-- the row of the line at a place
abbrev pub row_there : {V : Type 0} → (n : ℕ) → List V → Option ℕ → Option (List V)
row_there n m (Some i) = Some (row_at n m i)
row_there n m None = None

row_from : {V : Type 0} (n : ℕ) (m : List V) (u j : ℕ) (es : List Entry) → row_for u (held_lines n m j es) ≡ row_there n m (position_from (λ e. eqb e.subject u) j es)
unfolding held_line
row_from n m u j [] = refl
row_from n m u j (e ∷ es) = go (eqb e.subject u) (row_from n m u (j + 1) es)
  where
    later : Option ℕ
    later = position_from (λ e. eqb e.subject u) (j + 1) es

    go : (b : Bool) → row_for u (held_lines n m (j + 1) es) ≡ row_there n m later → cond b (Some (row_at n m j)) (row_for u (held_lines n m (j + 1) es)) ≡ row_there n m (cond b (Some j) later)
    go true r = refl
    go false r = r

-- the row for u, by the place of its line
pub row_is : {V : Type 0} (n : ℕ) (m : List V) (u : ℕ) (es : List Entry) (o : Option ℕ) → o ≡ position (λ e. eqb e.subject u) es → row_for u (held_lines n m 0 es) ≡ row_there n m o
row_is n m u es o e = row_from n m u 0 es ∙ ap (row_there n m) (sym (e ∙ position_from-zero (λ x. eqb x.subject u) es))

-- ---- the columns of a row
module _ {V : Type 0} (K : Kind V) where
  -- whether the column k may stand
  abbrev pub may_stand : (u k : ℕ) → List V → Bool
  may_stand u k row = cond (eqb k u) true (K.is_zero (at K row k))

  every : (u m : ℕ) (row : List V) → ((k : ℕ) → k < m → may_stand u k row ≡ true) → true ≡ alone K u m row
  every u zero row h = refl
  every u (suc m) row h = every u m row (λ k l. h k (omega arith)) ∙ sym (ap (λ t. cond t (alone K u m row) false) (h m (omega arith)))

  not_one : (u m k : ℕ) (row : List V) → k < m → may_stand u k row ≡ false → false ≡ alone K u m row
  not_one u zero k row l h = absurd (omega arith)
  not_one u (suc m) k row l h = go (dec_le m k) (λ j. not_one u m k row j h)
    where
      stops : (b : Bool) → cond b false false ≡ false
      stops true = refl
      stops false = refl

      go : Dec (m ≤ k) → (k < m → false ≡ alone K u m row) → false ≡ cond (may_stand u m row) (alone K u m row) false
      go (yes p) below = let e : k ≡ m = omega arith in sym (ap (λ t. cond t (alone K u m row) false) (subst (λ i. may_stand u i row ≡ false) e h))
      go (no p) below = sym (stops (may_stand u m row)) ∙ ap (λ t. cond (may_stand u m row) t false) (below (omega arith))

  -- it is what a test of all columns finds
  pub alone_is : (u m : ℕ) (row : List V) (b : Bool) → (b ≡ true → (k : ℕ) → k < m → may_stand u k row ≡ true)
      → (b ≡ false → (k : ℕ) × (k < m) × (may_stand u k row ≡ false)) → b ≡ alone K u m row
  alone_is u m row true all some = every u m row (all refl)
  alone_is u m row false all some = let s = some refl in not_one u m s.0 row s.1 s.2

  pub alone_take : (u m k : ℕ) (row : List V) → m ≤ k → alone K u m (take k row) ≡ alone K u m row
  alone_take u zero k row h = refl
  alone_take u (suc m) k row h =
      ap (λ x. cond (cond (eqb m u) true (K.is_zero x)) (alone K u m (take k row)) false) (get_or-take k row m K.nil (omega arith))
      ∙ ap (λ r. cond (cond (eqb m u) true (K.is_zero (at K row m))) r false) (alone_take u m k row (omega arith))

pub kept_if : {X : Type 0} (b : Bool) (x : X) → then_some b x ≡ cond b (Some x) None
kept_if true x = refl
kept_if false x = refl

-- ---- where a row lies
pub row_inside : (n j h have : ℕ) → j < h → h ≤ n → used n ≤ have → row_place n j + wide n ≤ have
row_inside n j h have a b r = let u = used_all n (omega arith) in let f = row_fits n j (omega arith) in omega (arith, u, f, r)

-- a number of it, in any column
pub number_in_row : {V : Type 0} (K : Kind V) (n : ℕ) (m : List V) (j u : ℕ) (x : V) → row_place n j + wide n ≤ length m → u < wide n → x ≡ get_or m (row_place n j + u) x → at K (row_at n m j) u ≡ x
number_in_row K n m j u x h b e =
    at_is K (row_at n m j) u x (let s = row_length n j m h in omega (arith, s)) (e ∙ sym (get_or-take (wide n) (drop (row_place n j) m) u x b ∙ get_or-drop (row_place n j) m u x))

pub begun : {V : Type 0} (n j : ℕ) (m : List V) → take (row_place n j + n + 1 - row_place n j) (drop (row_place n j) m) ≡ take (n + 1) (row_at n m j)
begun n j m =
    let cut : row_place n j + n + 1 - row_place n j ≡ n + 1 = omega arith in
    let row = drop (row_place n j) m in
    ap (λ k. take k row) cut ∙ sym (take-take (n + 1) (wide n) row (omega arith))

pub begun_length : {V : Type 0} (n j : ℕ) (m : List V) → row_place n j + wide n ≤ length m → length (take (n + 1) (row_at n m j)) ≡ n + 1
begun_length n j m h = length-take-le (n + 1) (row_at n m j) (let s = row_length n j m h in omega (arith, s))

-- what is read off the columns of a row up to the constant
module _ {V : Type 0} (K : Kind V) (n j : ℕ) (m row : List V) (is : row ≡ take (n + 1) (row_at n m j)) (h : row_place n j + wide n ≤ length m) where
  pub number_in : (x : V) → x ≡ get_or row n x → at K (row_at n m j) n ≡ x
  number_in x e =
      at_is K (row_at n m j) n x (let s = row_length n j m h in omega (arith, s)) (e ∙ ap (λ r. get_or r n x) is ∙ get_or-take (n + 1) (row_at n m j) n x (omega arith))

  pub columns : (u : ℕ) → alone K u (length (take n row)) (take n row) ≡ alone K u n (row_at n m j)
  columns u =
      let first : take n row ≡ take n (row_at n m j) = ap (take n) is ∙ take-take n (n + 1) (row_at n m j) (omega arith) in
      let size : length (take n (row_at n m j)) ≡ n = length-take-le n (row_at n m j) (let s = row_length n j m h in omega (arith, s)) in
      ap (λ l. alone K u (length l) l) first ∙ ap (λ k. alone K u k (take n (row_at n m j))) size ∙ alone_take K u n n (row_at n m j) (omega arith)
