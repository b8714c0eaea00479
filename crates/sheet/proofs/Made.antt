-- A sheet just made.
use Rattle.std.proofs.Common.{◌≡◌, ℕ, ◌≤◌, Bool, true, false, cond, leb, List, [], length, Ok, Err, sym, refl, ap, ◌∙◌, arith}
use native.Mathlib.Decide.{dec_le}
use Rattle.ledger.specs.declared.entry.Entry.{Entry}
use Rattle.ledger.specs.Listed.{empty}
use Rattle.elimination.specs.declared.fault.SheetFault.TheVariants.{Size}
use Rattle.elimination.specs.Held.{needed, size_in, held_lines, held_in}
use Rattle.elimination.proofs.Tests.{at_most}
use Rattle.sheet.specs.Contents.{measured, size_made}

no_entries : (b : Bool) → cond {A = List Entry} b [] [] ≡ []
no_entries true = refl
no_entries false = refl

pub nothing_held : {V : Type 0} (n : ℕ) (m : List V) → held_in (empty n) m ≡ []
unfolding held_in
nothing_held n m = ap (held_lines (size_in (empty n) (length m)) m 0) (no_entries (leb (needed (empty n).n) (length m)))

none : (b : Bool) → cond {A = ℕ} b 0 0 ≡ 0
none true = refl
none false = refl

-- a sheet has the set points that measuring lets pass
pub size_is : (n have : ℕ) → size_in (empty n) have ≡ size_made (measured n have) n
size_is n have = go (leb 1 n) (leb n 48) (λ e. nought (λ h. no_truth (leb 1 n) e (at_most 1 n h)))
  where
    no_truth : (b : Bool) → b ≡ false → b ≡ true → ⊥
    no_truth b e d = let z : ◌≡◌ {A = ℕ} 0 1 = truth in omega arith
      where
        truth : ◌≡◌ {A = ℕ} 0 1
        truth = let z : true ≡ false = sym d ∙ e in cc

    nought : (1 ≤ n → ⊥) → n ≡ 0
    nought k = low (dec_le 1 n)
      where
        low : Dec (1 ≤ n) → n ≡ 0
        low (yes h) = absurd (k h)
        low (no h) = omega arith

    fit : (f : Bool) → cond f n 0 ≡ size_made (cond f (Ok (needed n)) (Err Size)) n
    fit true = refl
    fit false = refl

    go : (a b : Bool) → (a ≡ false → n ≡ 0) → cond (leb (needed (cond b n 0)) have) (cond b n 0) 0 ≡ size_made (cond (cond a b false) (cond (leb (needed n) have) (Ok (needed n)) (Err Size)) (Err Size)) n
    go true true k = fit (leb (needed n) have)
    go false true k = ap (λ i. cond (leb (needed n) have) i 0) (k refl) ∙ none (leb (needed n) have)
    go true false k = none (leb (needed 0) have)
    go false false k = none (leb (needed 0) have)
