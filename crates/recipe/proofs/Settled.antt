-- One set point after the other.
use Rattle.std.proofs.Common.{◌≡◌, ℕ, zero, suc, ◌-◌, ◌≤◌, List, ◌++◌, append_assoc, add-one, arith}
use Rattle.exact.specs.Kind.{Kind}
use Rattle.sheet.specs.Contents.{Contents}
use Rattle.recipe.specs.Run.{settled_one, settled_rows}

pub settled_more : {V : Type 0} (K : Kind V) (S : Contents V) (q m : ℕ) (d₀ d d' : List ℕ) →
    1 ≤ q → m ≡ q → d ≡ d₀ ++ settled_rows K S (q - 1) → d' ≡ d ++ settled_one K S q → d' ≡ d₀ ++ settled_rows K S m
settled_more K S zero m d₀ d d' h n e o = absurd (omega arith)
settled_more K S (suc p) m d₀ d d' h n e o =
    let b : suc p - 1 ≡ p = omega arith in
    rw (n, o, e, b, append_assoc, add-one)
