-- What a kind of numbers is, and the laws that it keeps.
use Rattle.std.specs.Prelude.{◌≡◌, ◌≤◌, Bool, true, T, ◌⊎◌, ◌↔◌, ℤ, pos, Some, None, Option, ◌≢◌, unsigned_abs}
use Rattle.exact.specs.Fraction.{Fraction, whole, plus, times, opposite, turned, Equal}

-- what the functions of a kind go by
pub record Kind (V : Type 0) : Type 0 where
  -- the number that a value tells
  pub tells : V → Fraction
  -- the one value that functions write for a number, if the kind holds it
  pub value_of : Fraction → Option V
  pub is_zero : V → Bool
  -- the value written for 0
  pub nil : V

-- Which fractions are admitted, and when two are the same number. Sameness of fractions that are not admitted is left open: modulo a
-- number it is not even transitive there.
pub record KindLaws (admits : Fraction → Type 0) (alike : Fraction → Fraction → Type 0) : Type 0 where
  pub proper : (a : Fraction) → admits a → a.bottom ≢ pos 0
  -- sameness is an equivalence: fractions that are equal are the same, so each is the same as itself
  pub alike_sym : (a b : Fraction) → admits a → admits b → alike a b → alike b a
  pub alike_trans : (a b c : Fraction) → admits a → admits b → admits c → alike a b → alike b c → alike a c
  pub alike_equal : (a b : Fraction) → admits a → admits b → Equal a b → alike a b
  -- sums, products and opposites of same numbers are the same
  pub alike_plus : (a b c d : Fraction) → admits a → admits b → admits c → admits d → alike a b → alike c d → alike (plus a c) (plus b d)
  pub alike_times : (a b c d : Fraction) → admits a → admits b → admits c → admits d → alike a b → alike c d → alike (times a c) (times b d)
  pub alike_opposite : (a b : Fraction) → admits a → admits b → alike a b → alike (opposite a) (opposite b)
  pub admits_whole : (a : ℤ) → admits (whole a)
  pub admits_plus : (a b : Fraction) → admits a → admits b → admits (plus a b)
  pub admits_times : (a b : Fraction) → admits a → admits b → admits (times a b)
  pub admits_opposite : (a : Fraction) → admits a → admits (opposite a)
  pub apart : alike (whole (pos 0)) (whole (pos 1)) → ⊥
  pub admits_turned : (a : Fraction) → admits a → (alike a (whole (pos 0)) → ⊥) → admits (turned a)

pub record Lawful {V : Type 0} (K : Kind V) (admits : Fraction → Type 0) (alike : Fraction → Fraction → Type 0) (complete : Bool) : Type 0 where
  pub kind : KindLaws admits alike
  pub admitted : (v : V) → admits (K.tells v)
  -- the value of a number tells it, and a number without a value is told by none
  pub held : (x : Fraction) (v : V) → admits x → K.value_of x ≡ Some v → alike (K.tells v) x
  pub unheld : (x : Fraction) (v : V) → admits x → K.value_of x ≡ None → alike (K.tells v) x → ⊥
  -- one value for each number
  pub by_number : (x y : Fraction) → admits x → admits y → alike x y → K.value_of x ≡ K.value_of y
  -- a value that no function writes tells 0
  pub stray : (v : V) → (K.value_of (K.tells v) ≡ Some v) ⊎ alike (K.tells v) (whole (pos 0))
  pub wholes : (a : ℤ) → unsigned_abs a ≤ 1000000 → (v : V) × (K.value_of (whole a) ≡ Some v)
  pub nil_written : K.value_of (whole (pos 0)) ≡ Some K.nil
  pub is_zero : (v : V) → T (K.is_zero v) ↔ alike (K.tells v) (whole (pos 0))
  -- `complete` is true exactly when every admitted number has a value
  pub complete_all : complete ≡ true → (x : Fraction) → admits x → (v : V) × (K.value_of x ≡ Some v)
  pub all_complete : ((x : Fraction) → admits x → (v : V) × (K.value_of x ≡ Some v)) → complete ≡ true
