-- A number of at most seven digits.
use Rattle.std.proofs.Common.{◌≡◌, ℕ, ◌+◌, ◌-◌, ◌*◌, ◌^◌, ◌<◌, ◌≤◌, pow-suc, add-one, arith, subst}
use native.Mathlib.Nat.{pow-le-pow_right}
use Rattle.reading.specs.Sound.{Fit}

pub seven : (n k : ℕ) → Fit n k → n < 10000000
seven n k f =
    let t : 0 < 10 = omega arith in
    let p : 10 ^ k ≤ 10 ^ 7 = pow-le-pow_right t f.1 in omega (arith, f.0)

-- with room for one digit more
pub low : (n l : ℕ) → Fit n (7 - l) → 1 ≤ l → n < 1000000
low n l f h =
    let q : 7 - l ≤ 6 = omega arith in
    let t : 0 < 10 = omega arith in
    let p : 10 ^ (7 - l) ≤ 10 ^ 6 = pow-le-pow_right t q in omega (arith, f.0)

-- a digit more
pub one_more : (n k d : ℕ) → Fit n k → k < 7 → d < 10 → Fit (10 * n + d) (k + 1)
one_more n k d f h l = (rw (add-one, pow-suc) (omega (arith, f.0)), omega arith)

pub longer : (n l l' d : ℕ) → Fit n (7 - l) → l ≡ l' + 1 → l ≤ 7 → d < 10 → Fit (10 * n + d) (7 - l')
longer n l l' d f e b h =
    let k : 7 - l + 1 ≡ 7 - l' = omega arith in
    subst (Fit (10 * n + d)) k (one_more n (7 - l) d f (omega arith) h)
