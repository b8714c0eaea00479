-- What the greatest common divisor divides, and the two forms of lowest terms.
use Rattle.std.specs.Prelude.{◌≡◌, ℕ, zero, suc, ◌-◌, ◌*◌, ◌/◌, ◌%◌, ◌<◌, refl}
use Rattle.std.proofs.Common.{sym, ap, subst, ◌∙◌, arith, div-add-mod', mod-lt}
use Rattle.std.proofs.Math.Logic.{∥∥₁_elim}
use Rattle.std.specs.Int.{◌∣◌}
use Rattle.std.proofs.Math.Nat.{dvd-mod_iff, dvd-sub, dvd-mul_left_of_dvd, dvd_refl, dvd-zero, dvd-mul_right, dvd_of_mul-dvd-mul_right, eq-one_of_dvd-one, ℕ_set}
use Rattle.fractions.specs.Lowest.{OnlyOne}
use Rattle.fractions.specs.Gcd.{gcd_within, gcd}

-- g divides both, and what divides c times both divides c times g; at c = 1, each common divisor divides g
pub record Gcd (a b g : ℕ) : Type 0 where
  pub first : g ∣ a
  pub second : g ∣ b
  pub greatest : (x c : ℕ) → x ∣ a * c → x ∣ b * c → x ∣ g * c

-- lowest terms as Euclid's lemma: what n divides of m * c, it divides of c
abbrev pub Apart : ℕ → ℕ → Type 0
Apart m n = (c : ℕ) → n ∣ m * c → n ∣ c

rest_times : (x y c : ℕ) → x * c - (x / y) * (y * c) ≡ (x % y) * c
rest_times x y c = omega (arith, ap (λ (t : ℕ). t * c) (div-add-mod' x y))

rest_divided : (d x y c : ℕ) → d ∣ x * c → d ∣ y * c → d ∣ (x % y) * c
rest_divided d x y c h k = subst (λ (t : ℕ). d ∣ t) (rest_times x y c) (dvd-sub d h (dvd-mul_left_of_dvd d k (x / y)))

step : (a b g : ℕ) → Gcd b (a % b) g → Gcd a b g
step a b g r = record {
  first = (dvd-mod_iff g r.first).0 r.second;
  second = r.first;
  greatest = λ x c p q. r.greatest x c q (rest_divided x a b c p q);
}

within_is : (f a b : ℕ) → b < f → Gcd a b (gcd_within f a b)
unfolding gcd_within
within_is zero a b h = absurd (omega arith)
within_is (suc f) a zero h = record { first = dvd_refl a; second = dvd-zero a; greatest = λ x c p q. p }
within_is (suc f) a (suc b) h =
    let less : a % suc b < suc b = mod-lt a (omega arith) in
    step a (suc b) (gcd_within f (suc b) (a % suc b)) (within_is f (suc b) (a % suc b) (omega arith))

pub gcd_is : (a b : ℕ) → Gcd a b (gcd a b)
unfolding gcd
gcd_is a b = within_is (suc b) a b (omega arith)

-- more steps than needed change nothing
enough : (f g a b : ℕ) → b < f → b < g → gcd_within f a b ≡ gcd_within g a b
unfolding gcd_within
enough zero g a b h k = absurd (omega arith)
enough (suc f) zero a b h k = absurd (omega arith)
enough (suc f) (suc g) a zero h k = refl
enough (suc f) (suc g) a (suc b) h k =
    let less : a % suc b < suc b = mod-lt a (omega arith) in
    enough f g (suc b) (a % suc b) (omega arith) (omega arith)

pub gcd_step : (a b : ℕ) → 0 < b → gcd b (a % b) ≡ gcd a b
unfolding gcd gcd_within
gcd_step a zero h = absurd (omega arith)
gcd_step a (suc b) h =
    let less : a % suc b < suc b = mod-lt a (omega arith) in
    enough (suc (a % suc b)) (suc b) (suc b) (a % suc b) (omega arith) (omega arith)

pub gcd_zero : (a : ℕ) → gcd a 0 ≡ a
unfolding gcd gcd_within
gcd_zero a = refl

pub apart_from_only_one : (m n : ℕ) → OnlyOne m n → Apart m n
apart_from_only_one m n only c h =
    let g = gcd_is m n in
    let one : gcd m n ≡ 1 = only (gcd m n) (g.first, g.second) in
    let by : n ∣ gcd m n * c = g.greatest n c h (dvd-mul_right n c) in
    let e : gcd m n * c ≡ c = ap (λ (t : ℕ). t * c) one ∙ omega arith in
    subst (λ (t : ℕ). n ∣ t) e by

-- k * a and k * b, b not 0: then k = 1
at_parts : (k a b : ℕ) → 0 < k * b → Apart (k * a) (k * b) → k ≡ 1
at_parts k a b h apart =
    let e : k * b * a ≡ k * a * b = omega arith in
    let d : (k * b) ∣ b = apart b (subst (λ (t : ℕ). (k * b) ∣ t) e (dvd-mul_right (k * b) a)) in
    let one_b : 1 * b ≡ b = omega arith in
    let positive : 0 < b = lower b h in
    eq-one_of_dvd-one (dvd_of_mul-dvd-mul_right k positive (subst (λ (t : ℕ). (k * b) ∣ t) (sym one_b) d))
  where
    lower : (b : ℕ) → 0 < k * b → 0 < b
    lower zero p = absurd (omega arith)
    lower (suc b) p = omega arith

pub only_one_from_apart : (m n : ℕ) → 0 < n → Apart m n → OnlyOne m n
only_one_from_apart m n positive apart k both =
    ∥∥₁_elim both.0 (ℕ_set k 1)
    (λ a. ∥∥₁_elim both.1 (ℕ_set k 1)
    (λ b. at_parts k a.0 b.0 (subst (λ (t : ℕ). 0 < t) b.1 positive) (subst (λ (t : ℕ). Apart t (k * b.0)) a.1 (subst (λ (t : ℕ). Apart m t) b.1 apart))))
