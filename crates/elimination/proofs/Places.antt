-- Where rows and lines lie.
use Rattle.std.proofs.Common.{◌≡◌, ℕ, ◌+◌, ◌-◌, ◌*◌, ◌<◌, ◌≤◌, List, length, drop, sym, ap, ◌∙◌, mul-le-mul_right, add-mul, one-mul, mul-add, arith, length-drop, length-take-le, drop-drop}
use Rattle.std.proofs.Common.{mul-le-mul}
use Rattle.elimination.specs.Held.{wide, needed, lines_place, row_place, line_place, row_at}

next : (t u w : ℕ) → t < u → t * w + w ≤ u * w
next t u w h =
    let up : (t + 1) * w ≤ u * w = mul-le-mul_right w (omega arith) in
    let e : (t + 1) * w ≡ t * w + w = rw (add-mul, one-mul) in
    omega (arith, up, e)

-- rows do not meet
pub row_next : (n t u : ℕ) → t < u → row_place n t + wide n ≤ row_place n u
row_next n t u h = next t u (wide n) h

pub row_after : (n t : ℕ) → row_place n (t + 1) ≡ row_place n t + wide n
row_after n t = rw (add-mul, one-mul)

-- lines do not meet
pub line_next : (n t u : ℕ) → t < u → line_place n t + (n + 1) ≤ line_place n u
line_next n t u h = let a = next t u (n + 1) h in omega (arith, a)

-- a row ends before the lines begin
pub row_line : (n h j : ℕ) → h ≤ n → row_place n h + wide n ≤ line_place n j
row_line n h j l = let a = next h (n + 1) (wide n) (omega arith) in omega (arith, a)

size : (n : ℕ) → needed n ≡ (n + 1) * wide n + n * (n + 1)
size n =
    let e : 3 * n + 1 ≡ (2 * n + 1) + n = omega arith in
    let f : (n + 1) * n ≡ n * (n + 1) = rw (mul-add, add-mul, one-mul) (omega arith) in
    ap (λ k. (n + 1) * k) e ∙ mul-add (n + 1) (2 * n + 1) n ∙ ap (λ k. (n + 1) * (2 * n + 1) + k) f

pub line_fits : (n j : ℕ) → j < n → line_place n j + (n + 1) ≤ needed n
line_fits n j h = let a = next j n (n + 1) h in let s = size n in omega (arith, a, s)

pub row_fits : (n h : ℕ) → h ≤ n → row_place n h + wide n ≤ needed n
row_fits n h l = let a = next h (n + 1) (wide n) (omega arith) in let s = size n in omega (arith, a, s)

-- the numbers of a sheet are few
pub row_small : (n j : ℕ) → n ≤ 48 → j ≤ n → row_place n j ≤ 4656
row_small n j a b = mul-le-mul {n₁ = j} {m₁ = wide n} {n₂ = 48} {m₂ = 97} (omega arith) (omega arith)

pub needed_small : (n : ℕ) → n ≤ 48 → needed n ≤ 7105
needed_small n a = mul-le-mul {n₁ = n + 1} {m₁ = 3 * n + 1} {n₂ = 49} {m₂ = 145} (omega arith) (omega arith)

-- the numbers of a row
pub row_length : {V : Type 0} (n j : ℕ) (m : List V) → row_place n j + wide n ≤ length m → length (row_at n m j) ≡ wide n
row_length n j m h = length-take-le (wide n) (drop (row_place n j) m) (let d = length-drop (row_place n j) m in omega arith)

-- what two lists have alike from a place on, they have alike from a later place on
pub rest_past : {V : Type 0} (a b : ℕ) → a ≤ b → (m m' : List V) → drop a m ≡ drop a m' → drop b m ≡ drop b m'
rest_past a b h m m' e =
    let d : a + (b - a) ≡ b = omega arith in
    ap (λ i. drop i m) (sym d) ∙ sym (drop-drop (b - a) a m) ∙ ap (drop (b - a)) e ∙ drop-drop (b - a) a m' ∙ ap (λ i. drop i m') d

-- the lines end where the needed numbers end
pub lines_end : (n : ℕ) → line_place n n ≡ needed n
lines_end n = sym (size n)

pub lines_fit : (n : ℕ) → lines_place n ≤ needed n
lines_fit n = let s = size n in omega (arith, s)
