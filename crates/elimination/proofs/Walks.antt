-- The walks over the held lines, one place after the other.
use Rattle.std.proofs.Common.{◌≡◌, ℕ, ◌+◌, ◌<◌, ◌≤◌, List, [], ◌∷◌, length, get_or, drop, Ok, Err, Result, sym, refl, ap, ◌∙◌, subst, arith}
use Rattle.std.proofs.lemmas.List.{at_drop_more, at_drop_all}
use Rattle.exact.specs.Kind.{Kind}
use Rattle.ledger.specs.declared.entry.Entry.{Entry}
use Rattle.ledger.specs.Entries.{blank}
use Rattle.rows.specs.declared.fault.RowFault.{RowFault}
use Rattle.rows.specs.Row.{done, Leaves, cleared}
use Rattle.elimination.specs.declared.fault.Step.{Step}
use Rattle.elimination.specs.declared.fault.Step.TheVariants.{Forward}
use Rattle.elimination.specs.declared.fault.StepFault.{StepFault}
use Rattle.elimination.specs.Held.{HeldLine, row_at, held_line, held_lines}
use Rattle.elimination.specs.Steps.{located, then, forward}

-- ---- answers in place
pub made_ok : {X E : Type 0} (m : Result X E) (x : X) → done m ≡ Ok tt → Leaves m x → m ≡ Ok x
made_ok (Ok y) x e l = ap Ok (sym l)
made_ok (Err f) x e l = let z : ◌≡◌ {A = ℕ} 0 1 = cc in absurd (omega arith)

pub made_from : {X E : Type 0} (m : Result X E) → done m ≡ Ok tt → (x : X) × (m ≡ Ok x)
made_from (Ok x) e = (x, refl)
made_from (Err f) e = let z : ◌≡◌ {A = ℕ} 0 1 = cc in absurd (omega arith)

pub made_err : {X E : Type 0} (m : Result X E) (f : E) → done m ≡ Err f → m ≡ Err f
made_err (Ok y) f e = let z : ◌≡◌ {A = ℕ} 0 1 = cc in absurd (omega arith)
made_err (Err g) f e = let d : g ≡ f = cc in ap Err d

pub leaves_ok : {X E : Type 0} (m : Result X E) (x : X) → m ≡ Ok x → Leaves m x
leaves_ok m x e = subst (λ n. Leaves n x) (sym e) refl

pub leaves_err : {X E : Type 0} (m : Result X E) (f : E) (x : X) → m ≡ Err f → Leaves m x
leaves_err m f x e = subst (λ n. Leaves n x) (sym e) tt

-- a row that was made at a place, and one that was not
pub located_ok : {X : Type 0} (s : Step) (p : ℕ) (m : Result X RowFault) (r : Result Unit RowFault) (x : X) → r ≡ done m → Leaves m x → located s p r ≡ Ok tt → located s p m ≡ Ok x
located_ok s p (Ok y) r x e l k = ap Ok (sym l)
located_ok s p (Err f) r x e l k = absurd (no (subst (λ t. located s p t ≡ Ok tt) e k))
  where
    no : ◌≡◌ {A = Result Unit StepFault} (Err (record { step = s; place = p; row = f })) (Ok tt) → ⊥
    no d = let z : ◌≡◌ {A = ℕ} 0 1 = cc in omega arith

pub located_err : {X : Type 0} (s : Step) (p : ℕ) (m : Result X RowFault) (r : Result Unit RowFault) (f : StepFault) → r ≡ done m → located s p r ≡ Err f → located s p m ≡ Err f
located_err s p (Ok y) r f e k = absurd (no (subst (λ t. located s p t ≡ Err f) e k))
  where
    no : ◌≡◌ {A = Result Unit StepFault} (Ok tt) (Err f) → ⊥
    no d = let z : ◌≡◌ {A = ℕ} 0 1 = cc in omega arith
located_err s p (Err g) r f e k = ap Err (same (subst (λ t. located s p t ≡ Err f) e k))
  where
    same : ◌≡◌ {A = Result Unit StepFault} (Err (record { step = s; place = p; row = g })) (Err f) → record { step = s; place = p; row = g } ≡ f
    same d = cc

pub located_made : {X : Type 0} (s : Step) (p : ℕ) (m : Result X RowFault) (r : Result Unit RowFault) → r ≡ done m → located s p r ≡ Ok tt → (x : X) × (located s p m ≡ Ok x)
located_made s p (Ok x) r e k = (x, refl)
located_made s p (Err f) r e k = absurd (no (subst (λ t. located s p t ≡ Ok tt) e k))
  where
    no : ◌≡◌ {A = Result Unit StepFault} (Err (record { step = s; place = p; row = f })) (Ok tt) → ⊥
    no d = let z : ◌≡◌ {A = ℕ} 0 1 = cc in omega arith

-- ---- the held lines
module _ {V : Type 0} (n : ℕ) (m : List V) (es : List Entry) (j : ℕ) where
  abbrev pub here : HeldLine V
  here = held_line n m j (get_or es j blank)

  abbrev pub later : List (HeldLine V)
  later = held_lines n m (j + 1) (drop (j + 1) es)

  pub lines_first : j < length es → held_lines n m j (drop j es) ≡ here ∷ later
  lines_first h = at_drop_more (held_lines n m j) es j blank h

  pub lines_end : length es ≤ j → held_lines n m j (drop j es) ≡ []
  lines_end h = at_drop_all (held_lines n m j) es j h

-- ---- forward
module _ {V : Type 0} (K : Kind V) (n : ℕ) (m : List V) (es : List Entry) (j : ℕ) (h : j < length es) (w : List V) where
  abbrev pub row_here : Result (List V) RowFault
  row_here = cleared K (get_or es j blank).subject w (row_at n m j)

  pub forward_more : (v : List V) → located Forward (j + 1) row_here ≡ Ok v → forward K (j + 1) (held_lines n m j (drop j es)) w ≡ forward K (j + 1 + 1) (later n m es j) v
  unfolding held_line
  forward_more v e = ap (λ hs. forward K (j + 1) hs w) (lines_first n m es j h) ∙ ap (λ r. then r (forward K (j + 1 + 1) (later n m es j))) e

  pub forward_stop : (f : StepFault) → located Forward (j + 1) row_here ≡ Err f → forward K (j + 1) (held_lines n m j (drop j es)) w ≡ Err f
  unfolding held_line
  forward_stop f e = ap (λ hs. forward K (j + 1) hs w) (lines_first n m es j h) ∙ ap (λ r. then r (forward K (j + 1 + 1) (later n m es j))) e
