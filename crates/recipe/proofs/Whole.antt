-- A sheet from its making to its settled set points.
use Rattle.std.proofs.Common.{◌≡◌, ℕ, ◌+◌, ◌≤◌, Bool, true, false, cond, leb, List, [], ◌++◌, Ok, Err, Result, refl, ap, ◌∙◌, subst, arith, le-leb}
use Rattle.exact.specs.Kind.{Kind}
use Rattle.elimination.specs.declared.fault.SheetFault.{SheetFault}
use Rattle.elimination.specs.declared.fault.SheetFault.TheVariants.{Size}
use Rattle.elimination.specs.Held.{needed}
use Rattle.sheet.specs.Contents.{Contents, size_fits, measured, size_made, fresh}
use Rattle.recipe.specs.Run.{LinesDone, Adds, settled_rows, opened, SheetDone}

abbrev picked : Bool → Bool → ℕ → Result ℕ SheetFault
picked a b x = cond a (cond b (Ok x) (Err Size)) (Err Size)

picked_is : (a b : Bool) (x k : ℕ) → picked a b x ≡ Ok k → (a ≡ true) × (x ≡ k)
picked_is true true x k e = (refl, cc e)
picked_is true false x k e = let z : ◌≡◌ {A = ℕ} 0 1 = cc e in absurd (omega arith)
picked_is false b x k e = let z : ◌≡◌ {A = ℕ} 0 1 = cc e in absurd (omega arith)

sized : (a b : Bool) (x n : ℕ) → a ≡ true → b ≡ true → size_made (picked a b x) n ≡ n
sized true true x n p q = refl
sized true false x n p q = let z : ◌≡◌ {A = ℕ} 0 1 = cc q in absurd (omega arith)
sized false b x n p q = let z : ◌≡◌ {A = ℕ} 0 1 = cc p in absurd (omega arith)

-- memory that was measured does for a sheet
fresh_opened : {V : Type 0} (K : Kind V) (n most k have : ℕ) → measured n most ≡ Ok k → have ≡ k → fresh {V = V} n 1 have ≡ opened K n
fresh_opened K n most k have m h =
    let p = picked_is (size_fits n) (leb (needed n) most) (needed n) k m in
    let fits : needed n ≤ have = omega (arith, p.1, h) in
    ap (λ s. record { n = s; number = 1; held = [] }) (sized (size_fits n) (leb (needed n) have) (needed n) n p.0 (le-leb (needed n) have fits))

pub sheet_done : {V : Type 0} (K : Kind V) (n most k have room : ℕ) (ls : List (ℕ × List ℕ)) (S₀ S' : Contents V) (d₀ d d' : List ℕ) →
    measured n most ≡ Ok k → have ≡ k → S₀ ≡ fresh n 1 have → room ≡ n + 1 → d₀ ≡ [] → Adds K room S₀ ls d₀ d S' → d' ≡ d ++ settled_rows K S' S'.n → SheetDone K n ls d'
sheet_done K n most k have room ls S₀ S' d₀ d d' m h s r z a o =
    record {
      rows = a.rows;
      last = S';
      done = subst (λ S. LinesDone K (n + 1) S ls a.rows S') (s ∙ fresh_opened K n most k have m h) (subst (λ k. LinesDone K k S₀ ls a.rows S') r a.done);
      output = o ∙ ap (λ x. x ++ settled_rows K S' S'.n) (a.output ∙ ap (λ x. x ++ a.rows) z);
    }
