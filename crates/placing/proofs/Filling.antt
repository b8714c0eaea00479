-- The numbers of a line, written one after another.
use Rattle.std.proofs.Common.{◌≡◌, ℕ, zero, suc, ◌+◌, ◌<◌, ◌≤◌, List, [], ◌∷◌, ◌++◌, length, get_or, take, drop, set, ℤ, pos, Some, None, Option, MatchOption, IfSome, All, Bor, append-nil, sym, refl, ap, ◌∙◌, subst, append_assoc, add-zero, add-one, arith}
use Rattle.std.proofs.lemmas.List.{drop_more, drop_all, length-take-le, set_at}
use Rattle.std.specs.Option.{option_map_or, option_copied}
use Rattle.reading.specs.declared.term.Term.{Term}
use Rattle.reading.specs.Terms.{Fair}
use Rattle.placing.specs.Numbers.{with_sign, coefficient, coefficients}
use Rattle.placing.proofs.Firsts.{first, first_fair}

pub length_coefficients : (ts : List Term) (q n : ℕ) → length (coefficients ts q n) ≡ n
length_coefficients ts q zero = refl
length_coefficients ts q (suc n) = ap suc (length_coefficients ts (q + 1) n)

last_on : (ts : List Term) (q n : ℕ) → coefficients ts q (suc n) ≡ coefficients ts q n ++ (coefficient ts (q + n) ∷ [])
last_on ts q zero = ap (λ i. coefficient ts i ∷ []) (sym (add-zero q))
last_on ts q (suc n) =
    let e : (q + 1) + n ≡ q + suc n = omega arith in
    ap (λ l. coefficient ts q ∷ l) (last_on ts (q + 1) n ∙ ap (λ i. coefficients ts (q + 1) n ++ (coefficient ts i ∷ [])) e)

module _ (ts : List Term) (d₀ d : List ℤ) (i : ℕ) (z : ℤ) (h : i < length d₀) (e : d ≡ coefficients ts 1 i ++ drop i d₀) where
  pub put : set d i z ≡ coefficients ts 1 i ++ (z ∷ drop (i + 1) d₀)
  put =
      ap (λ l. set l i z) (e ∙ ap (λ l. coefficients ts 1 i ++ l) (drop_more d₀ i (pos 0) h))
      ∙ set_at (coefficients ts 1 i) (get_or d₀ i (pos 0)) (drop (i + 1) d₀) z i (length_coefficients ts 1 i)

  pub one_more : z ≡ coefficient ts (i + 1) → set d i z ≡ coefficients ts 1 (i + 1) ++ drop (i + 1) d₀
  one_more g =
      let swap : i + 1 ≡ 1 + i = omega arith in
      put ∙ sym (append_assoc (coefficients ts 1 i) (z ∷ []) (drop (i + 1) d₀))
      ∙ ap (λ l. l ++ drop (i + 1) d₀) (ap (λ v. coefficients ts 1 i ++ (v ∷ [])) (g ∙ ap (coefficient ts) swap) ∙ sym (last_on ts 1 i) ∙ ap (coefficients ts 1) (sym (add-one i)))

-- the constant after n coefficients
pub finished : (ts : List Term) (d₀ x : List ℤ) (n i : ℕ) (z : ℤ) → n < length d₀ → length (take n d₀) ≤ i → i ≤ length (take n d₀) →
    x ≡ coefficients ts 1 i ++ drop i (take n d₀) → set (x ++ drop n d₀) n z ≡ coefficients ts 1 n ++ (z ∷ drop (n + 1) d₀)
finished ts d₀ x n i z h a b e =
    let m : i ≡ n = omega (arith, length-take-le n d₀ (omega arith)) in
    let none : drop i (take n d₀) ≡ [] = drop_all i (take n d₀) a in
    put ts d₀ (x ++ drop n d₀) n z h (rw (e, none, append-nil, m))

-- the value of the first term, or 0
pub mapped : (o : Option (Bor Term)) (r : ℤ) (P : Bor Term → Type 0) → MatchOption o (r ≡ pos 0) P → ((x : Bor Term) → P x → r ≡ with_sign x.now.negative x.now.coefficient) →
    r ≡ option_map_or (λ t. with_sign t.negative t.coefficient) (option_copied o) (pos 0)
mapped None r P m f = m
mapped (Some x) r P m f = f x m

-- the first term is fair where all are
pub fair_at : (ts : List Term) (q : ℕ) (o : Option (Bor Term)) (x : Bor Term) → All Fair ts → option_copied o ≡ first ts q → o ≡ Some x → Fair x.now
fair_at ts q o x h e f = subst (λ v. IfSome v Fair) (sym e ∙ ap option_copied f) (first_fair ts q h)
