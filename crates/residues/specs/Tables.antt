-- The rule of the table of reciprocals, proved at all of its entries by one test that is computed, one entry after the other.
use Rattle.std.specs.Prelude.{◌≡◌, ℕ, zero, suc, ◌+◌, ◌<◌, Bool, true, false, ◌&&◌, T, List, [], ◌∷◌, length, nat_eq, slice_index}
use Rattle.std.proofs.Common.{◌∙◌, subst, sym, add-zero, zero-add, add-suc, suc-add, le_of_suc-le-suc, not-suc-le-zero, eqb→eq}
use Rattle.residues.specs.Rest.{reciprocal}

left : (a b : Bool) → T (a && b) → T a
left true b t = tt
left false b t = t

right : (a b : Bool) → T (a && b) → T b
right true b t = t
right false b t = absurd t

-- the test f passes at each entry of the list and its place, counted from i
abbrev every : (ℕ → ℕ → Bool) → ℕ → List ℕ → Bool
every f i [] = true
every f i (x ∷ xs) = f i x && every f (suc i) xs

from : (f : ℕ → ℕ → Bool) (xs : List ℕ) (i : ℕ) → T (every f i xs) → (k : ℕ) → k < length xs → T (f (i + k) (slice_index xs k))
from f [] i t k h = absurd (not-suc-le-zero h)
from f (x ∷ xs) i t zero h = subst (λ (m : ℕ). T (f m x)) (sym (add-zero i)) (left (f i x) (every f (suc i) xs) t)
from f (x ∷ xs) i t (suc k) h =
    subst (λ (m : ℕ). T (f m (slice_index xs k))) (suc-add i k ∙ sym (add-suc i k)) (from f xs (suc i) (right (f i x) (every f (suc i) xs) t) k (le_of_suc-le-suc h))

at : (f : ℕ → ℕ → Bool) (xs : List ℕ) → T (every f 0 xs) → (k : ℕ) → k < length xs → T (f k (slice_index xs k))
at f xs t k h = subst (λ (m : ℕ). T (f m (slice_index xs k))) (zero-add k) (from f xs 0 t k h)

-- at each place stands its reciprocal modulo p
abbrev pub ReciprocalTable : ℕ → List ℕ → Type 0
ReciprocalTable p xs = T (every (λ n x. nat_eq x (reciprocal p n)) 0 xs)

pub entry_is : (p : ℕ) (xs : List ℕ) → ReciprocalTable p xs → (k : ℕ) → k < length xs → slice_index xs k ≡ reciprocal p k
entry_is p xs t k h = eqb→eq (slice_index xs k) (reciprocal p k) (at (λ n x. nat_eq x (reciprocal p n)) xs t k h)
