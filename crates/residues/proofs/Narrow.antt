-- Bytes and their products, at 32 bits.
use Rattle.std.proofs.Common.{◌≡◌, ℕ, ◌*◌, ◌≤◌, ℤ, pos, ◌-ℤ◌, ◌*ℤ◌, ap, ◌∙◌, ap₂, arith, w32, to_z, of_z}
use Rattle.std.proofs.lemmas.Int.{ints}
use Rattle.std.proofs.lemmas.Nat.{mul-le}

-- as the code has a number that it hands on
abbrev S : ℤ → ℤ
S z = to_z w32 (of_z w32 z)

keep : (n : ℕ) → n ≤ 65025 → S (pos n) ≡ pos n
keep n h = omega (arith, ints)

keep_difference : (m n : ℕ) → m ≤ 255 → n ≤ 65025 → S (pos m -ℤ pos n) ≡ pos m -ℤ pos n
keep_difference m n h k = omega (arith, ints)

pub product_is : {x y : ℤ} {a b : ℕ} → x ≡ pos a → y ≡ pos b → a ≤ 255 → b ≤ 255 → S (S x *ℤ S y) ≡ pos a *ℤ pos b
product_is {x} {y} {a} {b} p q h k = ap S (ap₂ ◌*ℤ◌ (ap S p ∙ keep a (omega arith)) (ap S q ∙ keep b (omega arith))) ∙ keep (a * b) (mul-le a b 255 255 h k)

pub difference_is : {x y z : ℤ} {a b c : ℕ} → x ≡ pos a → y ≡ pos b → z ≡ pos c → a ≤ 255 → b ≤ 255 → c ≤ 255 → S (S x -ℤ S (S y *ℤ S z)) ≡ pos a -ℤ pos b *ℤ pos c
difference_is {x} {y} {z} {a} {b} {c} p q r h k l =
    ap S (ap₂ ◌-ℤ◌ (ap S p ∙ keep a (omega arith)) (product_is q r k l)) ∙ keep_difference a (b * c) h (mul-le b c 255 255 k l)
