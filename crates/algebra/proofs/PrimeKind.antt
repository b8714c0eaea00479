-- The fractions whose lower number is not in a prime ideal, told apart up to the ideal, are a number kind.
use mathlib.Core.Path.{◌≡◌, refl, sym, ◌∙◌, ap, subst}
use mathlib.Core.List.{List, [], ◌∷◌}
use lib.IntN.{ℤ, pos, negsuc, ◌+ℤ◌, ◌-ℤ◌, ◌*ℤ◌, +ℤ_invr}
use Rattle.exact.specs.Fraction.{Fraction, plus, times, opposite, whole, Equal}
use Rattle.exact.specs.Kind.{KindLaws}
use Rattle.algebra.specs.Prime.{Prime, Admits, Alike}
use Rattle.algebra.proofs.Solver.{Expr, var, :0, :1, ◌:+◌, ◌:-◌, ◌:*◌, :neg, norm, solve, ⟦◌⟧}
use Rattle.algebra.proofs.Integers.{integers}

-- tops and bottoms of a, b, c and d
abbrev at : Expr
at = var 0

abbrev ab : Expr
ab = var 1

abbrev bt : Expr
bt = var 2

abbrev bb : Expr
bb = var 3

abbrev ct : Expr
ct = var 4

abbrev cb : Expr
cb = var 5

abbrev dt : Expr
dt = var 6

abbrev db : Expr
db = var 7

abbrev env : Fraction → Fraction → Fraction → Fraction → List ℤ
env a b c d = a.top ∷ a.bottom ∷ b.top ∷ b.bottom ∷ c.top ∷ c.bottom ∷ d.top ∷ d.bottom ∷ []

abbrev cross : Fraction → Fraction → ℤ
cross a b = a.top *ℤ b.bottom -ℤ a.bottom *ℤ b.top

module _ (Z : ℤ → Type 0) (𝓟 : Prime Z) where
  open 𝓟 use {has_zero, has_sum, has_neg, has_multiple, not_one, prime}

  -- where x = y is an identity, y is in the ideal if x is
  turn : (a b c d : Fraction) (x y : Expr) → norm x ≡ norm y → Z (⟦◌⟧ integers x (env a b c d)) → Z (⟦◌⟧ integers y (env a b c d))
  turn a b c d x y e = subst Z (solve integers (env a b c d) x y e)

  -- two multiples
  two : (x y u v : ℤ) → Z x → Z y → Z (u *ℤ x +ℤ v *ℤ y)
  two x y u v h k = has_sum (u *ℤ x) (v *ℤ y) (has_multiple u x h) (has_multiple v y k)

  product : (a b : ℤ) → (Z a → ⊥) → (Z b → ⊥) → Z (a *ℤ b) → ⊥
  product a b f g h = g (prime a b h f)

  flip : (a b : Fraction) → Alike Z a b → Alike Z b a
  flip a b h = turn a b a b (:neg (at :* bb :- ab :* bt)) (bt :* ab :- bb :* at) refl (has_neg (cross a b) h)

  chain : (a b c : Fraction) → Admits Z b → Alike Z a b → Alike Z b c → Alike Z a c
  chain a b c f h k =
      prime b.bottom (cross a c)
      (turn a b c c (cb :* (at :* bb :- ab :* bt) :+ ab :* (bt :* cb :- bb :* ct)) (bb :* (at :* cb :- ab :* ct)) refl (two (cross a b) (cross b c) c.bottom a.bottom h k)) f

  equal : (a b : Fraction) → Equal a b → Alike Z a b
  equal a b h = subst Z (sym (ap (λ z. z -ℤ a.bottom *ℤ b.top) h ∙ +ℤ_invr (a.bottom *ℤ b.top))) has_zero

  sums : (a b c d : Fraction) → Alike Z a b → Alike Z c d → Alike Z (plus a c) (plus b d)
  sums a b c d h k =
      turn a b c d ((cb :* db) :* (at :* bb :- ab :* bt) :+ (ab :* bb) :* (ct :* db :- cb :* dt)) ((at :* cb :+ ab :* ct) :* (bb :* db) :- (ab :* cb) :* (bt :* db :+ bb :* dt)) refl
      (two (cross a b) (cross c d) (c.bottom *ℤ d.bottom) (a.bottom *ℤ b.bottom) h k)

  products : (a b c d : Fraction) → Alike Z a b → Alike Z c d → Alike Z (times a c) (times b d)
  products a b c d h k =
      turn a b c d ((ct :* db) :* (at :* bb :- ab :* bt) :+ (ab :* bt) :* (ct :* db :- cb :* dt)) ((at :* ct) :* (bb :* db) :- (ab :* cb) :* (bt :* dt)) refl
      (two (cross a b) (cross c d) (c.top *ℤ d.bottom) (a.bottom *ℤ b.top) h k)

  opposites : (a b : Fraction) → Alike Z a b → Alike Z (opposite a) (opposite b)
  opposites a b h = turn a b a b (:neg (at :* bb :- ab :* bt)) (:neg at :* bb :- ab :* :neg bt) refl (has_neg (cross a b) h)

  top_not_zero : (a : Fraction) → (Alike Z a (whole (pos 0)) → ⊥) → Z a.top → ⊥
  top_not_zero a f h = f (turn a a a a at (at :* :1 :- ab :* :0) refl h)

  pub prime_laws : KindLaws (Admits Z) (Alike Z)
  prime_laws = record {
    proper = λ a f e. f (subst Z (sym e) has_zero);
    alike_sym = λ a b _ _ h. flip a b h;
    alike_trans = λ a b c _ f _ h k. chain a b c f h k;
    alike_equal = λ a b _ _ h. equal a b h;
    alike_plus = λ a b c d _ _ _ _ h k. sums a b c d h k;
    alike_times = λ a b c d _ _ _ _ h k. products a b c d h k;
    alike_opposite = λ a b _ _ h. opposites a b h;
    admits_whole = λ a h. not_one h;
    admits_plus = λ a b f g. product a.bottom b.bottom f g;
    admits_times = λ a b f g. product a.bottom b.bottom f g;
    admits_opposite = λ a f. f;
    apart = λ h. not_one (has_neg (negsuc 0) h);
    admits_turned = λ a _ f. top_not_zero a f;
  }

-- Sameness may be said in other words.
module _ {admits : Fraction → Type 0} {alike same : Fraction → Fraction → Type 0} (into : (a b : Fraction) → alike a b → same a b) (back : (a b : Fraction) → same a b → alike a b) where
  pub said_otherwise : KindLaws admits alike → KindLaws admits same
  said_otherwise k = record {
    proper = k.proper;
    alike_sym = λ a b f g h. into b a (k.alike_sym a b f g (back a b h));
    alike_trans = λ a b c e f g h i. into a c (k.alike_trans a b c e f g (back a b h) (back b c i));
    alike_equal = λ a b f g h. into a b (k.alike_equal a b f g h);
    alike_plus = λ a b c d e f g h i j. into (plus a c) (plus b d) (k.alike_plus a b c d e f g h (back a b i) (back c d j));
    alike_times = λ a b c d e f g h i j. into (times a c) (times b d) (k.alike_times a b c d e f g h (back a b i) (back c d j));
    alike_opposite = λ a b f g h. into (opposite a) (opposite b) (k.alike_opposite a b f g (back a b h));
    admits_whole = k.admits_whole;
    admits_plus = k.admits_plus;
    admits_times = k.admits_times;
    admits_opposite = k.admits_opposite;
    apart = λ h. k.apart (back (whole (pos 0)) (whole (pos 1)) h);
    admits_turned = λ a f n. k.admits_turned a f (λ h. n (into a (whole (pos 0)) h));
  }
