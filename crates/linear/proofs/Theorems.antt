-- The theorems of specs/Theorems, from those over the ring of a kind's numbers.
use Rattle.std.proofs.Common.{◌≡◌, ℕ, zero, suc, ◌+◌, ◌-◌, ◌<◌, ◌≤◌, Bool, true, false, T, eqb, ◌⊎◌, ◌↔◌, List, [], ◌∷◌, ◌++◌, length, pos, sym, refl, ap, ◌∙◌, subst, inl, inr, arith, length-append}
use mathlib.Core.Path.{subst⁻¹}
use native.Mathlib.Decide.{ℕ_discrete}
use Rattle.std.proofs.lemmas.List.{get_or_append_left, get_or_push}
use Rattle.std.proofs.lemmas.Bool.{ne_eqb, cond-false}
use Rattle.algebra.specs.Ring.{Ring}
use Rattle.exact.specs.Fraction.{Fraction, whole, plus, times, opposite, less_times, ratio}
use Rattle.exact.specs.Kind.{KindLaws}
use Rattle.linear.specs.Lines.{Line, entry, line, Values, Meets, Solves, PartContradicts, Fixed, IsFixed}
use Rattle.linear.specs.Linear.{sum, δ, val, Solved}
use Rattle.linear.specs.Linear as ring
use Rattle.linear.specs.Solved.{extended_by, extended_line, SolvedForm, SolvedRows}
use Rattle.linear.specs.Theorems as claim
use Rattle.linear.proofs.Numbers.{Number, numbers, of, ◌+ⁿ◌, ◌*ⁿ◌, alike_eq, and_then, back, turnedⁿ, times_turned}
use Rattle.linear.proofs.Told.{told_sum, satisfies}
use Rattle.linear.proofs.Packed.{told_δ, packed, unpacked}
use Rattle.linear.proofs.Whole.{total_cong, ext_left, ext_right, ext_number, line_n, point_n, point, met, zero_if_met}
use Rattle.linear.proofs.Pigeon.{one_left}
use Rattle.linear.proofs.Solutions as Sol
use Rattle.linear.proofs.Follows as Fol
use Rattle.linear.proofs.Step as Step

-- short of a contradiction, what cannot fail at any of finitely many places holds at all of them
pub all_or_absurd : (h : ℕ) (P : ℕ → Type 0) → ((i : ℕ) → i < h → (P i → ⊥) → ⊥) → (((i : ℕ) → i < h → P i) → ⊥) → ⊥
all_or_absurd zero P f k = k (λ i b. absurd (omega arith))
all_or_absurd (suc h) P f k = all_or_absurd h P (λ i b. f i (omega arith)) (λ g. f h (omega arith) (λ p. k (λ i b. all g p i b (ℕ_discrete i h))))
  where
    all : ((i : ℕ) → i < h → P i) → P h → (i : ℕ) → i < suc h → Dec (i ≡ h) → P i
    all g p i b (yes e) = subst⁻¹ P e p
    all g p i b (no e) = g i (omega arith)

module _ {admits : Fraction → Type 0} {alike : Fraction → Fraction → Type 0} (𝓚 : KindLaws admits alike) where
  open 𝓚 use {apart}

  abbrev 𝓡 : Ring
  𝓡 = numbers 𝓚

  abbrev Zero : Fraction → Type 0
  Zero x = alike x (whole (pos 0))

  module _ (n cap : ℕ) (ls : List Line) (r : ℕ → ℕ → Fraction) (s : ℕ → ℕ) (R : SolvedRows admits alike n cap ls r s) where
    abbrev h : ℕ
    h = length ls

    abbrev a : ℕ → ℕ → Number 𝓚
    a = line_n 𝓚 n ls

    abbrev row_n : ℕ → ℕ → Number 𝓚
    row_n j u = record { told = r j u; fine = R.admitted j u }

    abbrev 𝓢 : Solved 𝓡 n cap h a row_n s
    𝓢 = packed 𝓚 n cap h a row_n s R.form

    abbrev Point : Type 0
    Point = Values admits alike n

    abbrev Met : Line → Point → Type 0
    Met = Meets admits alike n

    abbrev SolvesN : (ℕ → Number 𝓚) → Type 0
    SolvesN x = ring.Solves 𝓡 n h x a

    -- ---- solutions
    solves : (x : ℕ → Number 𝓚) → SolvesN x → Solves admits alike n ls (point 𝓚 n x)
    solves x S i b = met 𝓚 n (line ls i) i x (S i b)

    solved : (x : Point) → Solves admits alike n ls x → SolvesN (point_n 𝓚 n x)
    solved x S i b = zero_if_met 𝓚 n (line ls i) i (point_n 𝓚 n x) (S i b)

    pub same_solutions : (x : Point) → Solves admits alike n ls x ↔ claim.SolvesRows admits alike n ls r s x
    same_solutions x = (λ S j b. (satisfies 𝓚 n x' (row_n j)).0 (both.0 (solved x S) j b), λ S. solves x' (both.1 (λ j b. (satisfies 𝓚 n x' (row_n j)).1 (S j b))))
      where
        x' : ℕ → Number 𝓚
        x' = point_n 𝓚 n x

        both : SolvesN x' ↔ ring.Solves 𝓡 n h x' row_n
        both = Sol.same_solutions 𝓡 n cap h a row_n s 𝓢 x'

    pub solutions_exist : (y : Point) → (x : Point) × Solves admits alike n ls x × ((u : ℕ) → ((j : ℕ) → j < h → s j ≡ u → ⊥) → alike (x.number u) (y.number u))
    solutions_exist y = let t = Sol.free 𝓡 n cap h a row_n s 𝓢 (point_n 𝓚 n y) in (point 𝓚 n t.0, solves t.0 t.1, t.2)

    -- ---- fixed numbers
    abbrev Alone : ℕ → Type 0
    Alone = claim.Alone admits alike n ls r s

    fixed : (j : ℕ) → j < h → Alone j → Fixed admits alike n ls (s j + 1) (r j n)
    fixed j b z x S = subst (λ u. alike (x.number u) (r j n)) (omega arith) (Sol.fixed 𝓡 n cap h a row_n s 𝓢 j b z (point_n 𝓚 n x) (solved x S))

    no_other : (q : ℕ) → 1 ≤ q → IsFixed admits alike n ls q → (j : ℕ) × (j < h) × (s j + 1 ≡ q) × Alone j
    no_other q b t = ends (Sol.only_fixed 𝓡 n cap h a row_n s 𝓢 apart (q - 1) one_value)
      where
        y : Number 𝓚
        y = record { told = t.0; fine = t.1 }

        one_value : (v w : ℕ → Number 𝓚) → SolvesN v → SolvesN w → alike (v (q - 1)).told (w (q - 1)).told
        one_value v w S S' = and_then 𝓚 (v (q - 1)) y (w (q - 1)) (t.2 (point 𝓚 n v) (solves v S)) (back 𝓚 (w (q - 1)) y (t.2 (point 𝓚 n w) (solves w S')))

        ends : (j : ℕ) × (j < h) × (s j ≡ q - 1) × ((u : ℕ) → u < n → (u ≡ q - 1 → ⊥) → Zero (r j u)) → (j : ℕ) × (j < h) × (s j + 1 ≡ q) × Alone j
        ends o = (o.0, o.1, (let e : s o.0 ≡ q - 1 = o.2 in omega arith), λ u c ne. o.3 u c (λ d. ne (d ∙ sym o.2)))

    pub fixed_numbers : claim.FixedNumbers admits alike n ls r s
    fixed_numbers = record { fixed = fixed; no_other = no_other }

    -- ---- combinations
    abbrev combined_n : (ℕ → Number 𝓚) → ℕ → Number 𝓚
    combined_n w u = sum 𝓡 h (λ i. ◌*ⁿ◌ 𝓚 (w i) (a i u))

    told_combined : (w : ℕ → Number 𝓚) (u : ℕ) → u < suc n → (combined_n w u).told ≡ claim.combined ls (λ i. (w i).told) u
    told_combined w u b =
        told_sum 𝓚 h (λ i. ◌*ⁿ◌ 𝓚 (w i) (a i u))
        ∙ total_cong h (λ i. times (w i).told (a i u).told) (λ i. times (w i).told (entry (line ls i) u)) (λ i c. ap (λ z. times (w i).told z) (ext_left n (line ls i) i u b))

    pub multipliers_unique : (w v : ℕ → Fraction) → ((i : ℕ) → admits (w i)) → ((i : ℕ) → admits (v i)) →
        ((u : ℕ) → u < n → alike (claim.combined ls w u) (claim.combined ls v u)) → (i : ℕ) → i < h → alike (w i) (v i)
    multipliers_unique w v w_fine v_fine e = Sol.same_multipliers 𝓡 n cap h a row_n s 𝓢 w' v' same
      where
        w' : ℕ → Number 𝓚
        w' i = record { told = w i; fine = w_fine i }

        v' : ℕ → Number 𝓚
        v' i = record { told = v i; fine = v_fine i }

        same : (u : ℕ) → u < n → alike (combined_n w' u).told (combined_n v' u).told
        same u b =
            subst⁻¹ (λ z. alike z (combined_n v' u).told) (told_combined w' u (omega arith))
            (subst⁻¹ (λ z. alike (claim.combined ls w u) z) (told_combined v' u (omega arith)) (e u b))

    -- ---- one more line
    module _ (l : Line) where
      abbrev l_n : ℕ → Number 𝓚
      l_n = ext_number 𝓚 n l h

      abbrev left_n : ℕ → Number 𝓚
      left_n = Step.left 𝓡 n cap h a row_n s 𝓢 l_n

      abbrev left_of : ℕ → Fraction
      left_of = claim.left_of admits alike n ls r s l

      told_left : (u : ℕ) → (left_n u).told ≡ left_of u
      told_left u = ap (λ z. plus (l_n u).told (opposite z)) (told_sum 𝓚 h (λ j. ◌*ⁿ◌ 𝓚 (l_n (s j)) (row_n j u)))

      zero_left : (u : ℕ) → Zero (left_of u) → Zero (left_n u).told
      zero_left u = subst⁻¹ Zero (told_left u)

      not_zero : (u : ℕ) → (Zero (left_of u) → ⊥) → Zero (left_n u).told → ⊥
      not_zero u f z = f (subst Zero (told_left u) z)

      -- ---- where only a constant is left
      abbrev weight : ℕ → Number 𝓚
      weight i = left_n (suc n + i)

      -- a line that is not held has no multiplier for one that is
      plain : (i : ℕ) → i < h → Zero (l_n (suc n + i)).told
      plain i b = alike_eq 𝓚 (l_n (suc n + i)) (whole (pos 0)) (ext_right n l h i ∙ cond-false (eqb h i) (whole (pos 1)) (whole (pos 0)) (ne_eqb h i (λ e. omega arith)))

      -- the line and the held lines, each times its multiplier, come to what is left
      sums_to : (u : ℕ) → u < suc n → alike (plus (l_n u).told (combined_n weight u).told) (left_n u).told
      sums_to u b = back 𝓚 (left_n u) (◌+ⁿ◌ 𝓚 (l_n u) (combined_n weight u)) (Step.left_made 𝓡 n cap h a row_n s 𝓢 l_n plain u b)

      told_sums : (u : ℕ) → u < suc n → plus (l_n u).told (combined_n weight u).told ≡ plus (entry l u) (claim.combined ls (claim.multiplier admits alike n ls r s l) u)
      told_sums u b =
          ap (λ z. plus z (combined_n weight u).told) (ext_left n l h u b)
          ∙ ap (λ z. plus (entry l u) z) (told_combined weight u b)
          ∙ ap (λ z. plus (entry l u) z)
          (total_cong h (λ i. times (weight i).told (entry (line ls i) u)) (λ i. times (left_of (suc n + i)) (entry (line ls i) u)) (λ i c. ap (λ z. times z (entry (line ls i) u)) (told_left (suc n + i))))

      module _ (C : claim.OnlyConstant admits alike n ls r s l) where
        gone : (u : ℕ) → u < n → Zero (plus (l_n u).told (combined_n weight u).told)
        gone u b = and_then 𝓚 (◌+ⁿ◌ 𝓚 (l_n u) (combined_n weight u)) (left_n u) (of 𝓚 (pos 0)) (sums_to u (omega arith)) (zero_left u (C.gone u b))

        last : alike (plus (l_n n).told (combined_n weight n).told) (left_n n).told
        last = sums_to n (omega arith)

        -- no values meet the line and each held line whose multiplier is not known to be 0
        clashes : (x : Point) → ((i : ℕ) → i < h → Zero (weight i).told ⊎ Met (line ls i) x) → Met l x → ⊥
        clashes x z m = not_zero n C.not_zero (Sol.clash 𝓡 n cap h a row_n s 𝓢 l_n weight (left_n n) gone last (point_n 𝓚 n x)
            (λ i b. go i (z i b)) (zero_if_met 𝓚 n l h (point_n 𝓚 n x) m))
          where
            go : (i : ℕ) → Zero (weight i).told ⊎ Met (line ls i) x → Zero (weight i).told ⊎ Zero (val 𝓡 n (point_n 𝓚 n x) (a i)).told
            go i (inl e) = inl e
            go i (inr e) = inr (zero_if_met 𝓚 n (line ls i) i (point_n 𝓚 n x) e)

        enough : (part : ℕ → Bool) → ((i : ℕ) → i < h → (Zero (left_of (suc n + i)) → ⊥) → T (part i)) → PartContradicts admits alike n ls part l
        enough part has x S m = all_or_absurd h (λ i. Zero (weight i).told ⊎ Met (line ls i) x) (λ i b. one i b (part i) refl) (λ z. clashes x z m)
          where
            one : (i : ℕ) → i < h → (p : Bool) → part i ≡ p → (Zero (weight i).told ⊎ Met (line ls i) x → ⊥) → ⊥
            one i b true e f = f (inr (S i b (subst⁻¹ T e tt)))
            one i b false e f = subst T e (has i b (λ z. f (inl (zero_left (suc n + i) z))))

        needed : (part : ℕ → Bool) → PartContradicts admits alike n ls part l → (i : ℕ) → i < h → (Zero (left_of (suc n + i)) → ⊥) → T (part i)
        needed part none i b f = Sol.needed 𝓡 n cap h a row_n s 𝓢 l_n weight (left_n n) gone last part no_solution i b (turnedⁿ 𝓚 (weight i) other) (times_turned 𝓚 (weight i) other)
          where
            other : Zero (weight i).told → ⊥
            other = not_zero (suc n + i) f

            no_solution : (x : ℕ → Number 𝓚) → ((j : ℕ) → j < h → T (part j) → Zero (val 𝓡 n x (a j)).told) → Zero (val 𝓡 n x l_n).told → ⊥
            no_solution x S z = none (point 𝓚 n x) (λ j c t. met 𝓚 n (line ls j) j x (S j c t)) (met 𝓚 n l h x z)

        pub evidence : claim.Evidence admits alike n ls r s l
        evidence = record {
          contradict = λ x S m. clashes x (λ i b. inr (S i b)) m;
          enough = enough;
          needed = needed;
          set_points = λ u b. subst Zero (told_sums u (omega arith)) (gone u b);
          constant = subst (λ z. alike z (left_of n)) (told_sums n (omega arith)) (subst (alike (plus (l_n n).told (combined_n weight n).told)) (told_left n) last);
        }

      -- ---- where nothing is left, or a set point
      some_value : (u : ℕ) → u < n → (Zero (left_of u) → ⊥) → (e : Number 𝓚) → (x : ℕ → Number 𝓚) × SolvesN x × alike (val 𝓡 n x l_n).told e.told
      some_value u b f e = Fol.any_value 𝓡 n cap h a row_n s 𝓢 l_n u b (turnedⁿ 𝓚 (left_n u) (not_zero u f)) (times_turned 𝓚 (left_n u) (not_zero u f)) e

      follows : ((x : Point) → Solves admits alike n ls x → Met l x) ↔ ((u : ℕ) → u < suc n → Zero (left_of u))
      follows = (
        λ F u b. subst Zero (told_left u) (Fol.implied 𝓡 n cap h a row_n s 𝓢 l_n (λ x S. zero_if_met 𝓚 n l h x (F (point 𝓚 n x) (solves x S))) u b),
        λ z x S. met 𝓚 n l h (point_n 𝓚 n x) (Fol.follows 𝓡 n cap h a row_n s 𝓢 l_n (λ u b. zero_left u (z u b)) (point_n 𝓚 n x) (solved x S)),
      )

      some_meets : (u : ℕ) → u < n → (Zero (left_of u) → ⊥) → (x : Point) × Solves admits alike n ls x × Met l x
      some_meets u b f = let t = some_value u b f (of 𝓚 (pos 0)) in (point 𝓚 n t.0, solves t.0 t.1, met 𝓚 n l h t.0 t.2)

      -- a solution that gives the line the value 1
      some_misses : (u : ℕ) → u < n → (Zero (left_of u) → ⊥) → (x : Point) × Solves admits alike n ls x × (Met l x → ⊥)
      some_misses u b f = let t = some_value u b f (of 𝓚 (pos 1)) in (
        point 𝓚 n t.0,
        solves t.0 t.1,
        λ m. zero_and_one (val 𝓡 n t.0 l_n) (zero_if_met 𝓚 n l h t.0 m) t.2,
      )
        where
          zero_and_one : (v : Number 𝓚) → Zero v.told → alike v.told (whole (pos 1)) → ⊥
          zero_and_one v z e = apart (and_then 𝓚 (of 𝓚 (pos 0)) v (of 𝓚 (pos 1)) (back 𝓚 v (of 𝓚 (pos 0)) z) e)

      pub judgement : claim.Judgement admits alike n ls r s l
      judgement = record { follows = follows; some_meets = some_meets; some_misses = some_misses }

      -- ---- where the line is held, with the set point of column q for its subject
      module _ (q : ℕ) (qn : q < n) (f : Zero (left_of q) → ⊥) where
        pub space : h < n
        space = one_left n h s q 𝓢.subject (λ j k b c e. same j k b c e (ℕ_discrete j k)) qn new
          where
            same : (j k : ℕ) → j < h → k < h → s j ≡ s k → Dec (j ≡ k) → j ≡ k
            same j k b c e (yes d) = d
            same j k b c e (no d) = absurd (Sol.distinct 𝓡 n cap h a row_n s 𝓢 apart j k b c e d)

            new : (k : ℕ) → k < h → s k ≡ q → ⊥
            new k b e = not_zero q f (subst (λ z. Zero (left_n z).told) e (Step.left_subject 𝓡 n cap h a row_n s 𝓢 l_n k b))

        module _ (room : h < cap) (r' : ℕ → ℕ → Fraction) (s' : ℕ → ℕ) (O : claim.OneStep admits alike n ls r s cap l q r' s') where
          abbrev ls' : List Line
          ls' = ls ++ l ∷ []

          abbrev a' : ℕ → ℕ → Number 𝓚
          a' = line_n 𝓚 n ls'

          abbrev row_n' : ℕ → ℕ → Number 𝓚
          row_n' j u = record { told = r' j u; fine = O.admitted j u }

          abbrev p : Number 𝓚
          p = turnedⁿ 𝓚 (left_n q) (not_zero q f)

          fresh : (i : ℕ) → i < cap → alike (l_n (suc n + i)).told (δ 𝓡 h i).told
          fresh i b = alike_eq 𝓚 (l_n (suc n + i)) (δ 𝓡 h i).told (ext_right n l h i ∙ sym (told_δ 𝓚 (eqb h i)))

          told_ratio : (u : ℕ) → times (left_n u).told p.told ≡ ratio (left_of u) (left_of q)
          told_ratio u = ap (λ z. times z p.told) (told_left u) ∙ ap (λ z. ratio (left_of u) z) (told_left q)

          stepped : Solved 𝓡 n cap (suc h) a' row_n' s'
          stepped = Step.step 𝓡 n cap h a row_n s 𝓢 l_n room fresh q qn p (times_turned 𝓚 (left_n q) (not_zero q f)) a' row_n' s'
              (λ i u b c. alike_eq 𝓚 (a' i u) (a i u).told (ap (λ z. extended_by n z i u) (get_or_append_left ls (l ∷ []) [] i b)))
              (λ u c. alike_eq 𝓚 (a' h u) (l_n u).told (ap (λ z. extended_by n z h u) (get_or_push ls l [] h refl)))
              O.subjects
              O.subject
              (λ j u b c. subst⁻¹ (λ z. alike (r' j u) (less_times (r j u) (r j q) z)) (told_ratio u) (O.rows j u b c))
              (λ u c. subst⁻¹ (λ z. alike (r' h u) z) (told_ratio u) (O.row u c))

          pub step : SolvedRows admits alike n cap ls' r' s'
          step = record {
            admitted = O.admitted;
            form = subst⁻¹ (λ z. SolvedForm alike n cap z (extended_line n ls') r' s') (length-append ls (l ∷ []) ∙ omega arith) (unpacked 𝓚 n cap (suc h) a' row_n' s' stepped);
          }

  start : (n cap : ℕ) (r : ℕ → ℕ → Fraction) (s : ℕ → ℕ) → ((j u : ℕ) → admits (r j u)) → SolvedRows admits alike n cap [] r s
  start n cap r s fine = record { admitted = fine; form = unpacked 𝓚 n cap 0 (line_n 𝓚 n []) row_n s (Fol.start 𝓡 n cap (line_n 𝓚 n []) row_n s) }
    where
      row_n : ℕ → ℕ → Number 𝓚
      row_n j u = record { told = r j u; fine = fine j u }

  pub step_keeps_solved : claim.StepKeepsSolved admits alike
  step_keeps_solved = record { start = start; step = step; space = space }
