-- The admitted fractions of a kind, up to sameness, are a commutative ring, and what is not 0 has an inverse.
use Rattle.std.proofs.Common.{◌≡◌, List, [], ◌∷◌, ℤ, pos, refl, subst}
use Rattle.algebra.specs.Ring.{Ring}
use Rattle.exact.specs.Fraction.{Fraction, whole, plus, times, opposite, turned, Equal}
use Rattle.exact.specs.Kind.{KindLaws}
use Rattle.algebra.proofs.Solver.{Expr, var, :0, :1, ◌:+◌, ◌:*◌, :neg, norm, solve, ⟦◌⟧}
use Rattle.algebra.proofs.Integers.{integers}

-- ---- fractions of expressions, so that a law of fractions is one identity for the solver
pub record FE : Type 0 where
  pub t : Expr
  pub b : Expr

infixl 60 ◌+'◌
infixl 70 ◌*'◌
abbrev pub ◌+'◌ : FE → FE → FE
x +' y = record { t = x.t :* y.b :+ x.b :* y.t; b = x.b :* y.b }

abbrev pub ◌*'◌ : FE → FE → FE
x *' y = record { t = x.t :* y.t; b = x.b :* y.b }

abbrev pub neg' : FE → FE
neg' x = record { t = :neg x.t; b = x.b }

abbrev pub A' : FE
A' = record { t = var 0; b = var 1 }

abbrev pub B' : FE
B' = record { t = var 2; b = var 3 }

abbrev pub C' : FE
C' = record { t = var 4; b = var 5 }

abbrev pub 0' : FE
0' = record { t = :0; b = :1 }

abbrev pub 1' : FE
1' = record { t = :1; b = :1 }

module _ {admits : Fraction → Type 0} {alike : Fraction → Fraction → Type 0} (𝓚 : KindLaws admits alike) where
  open 𝓚 use {alike_sym, alike_trans, alike_equal, alike_plus, alike_times, alike_opposite, admits_whole, admits_plus, admits_times, admits_opposite, admits_turned}

  -- an admitted fraction
  pub record Number : Type 0 where
    pub told : Fraction
    pub fine : admits told

  abbrev pub of : ℤ → Number
  of z = record { told = whole z; fine = admits_whole z }

  infixl 60 ◌+ⁿ◌
  infixl 70 ◌*ⁿ◌
  abbrev pub ◌+ⁿ◌ : Number → Number → Number
  a +ⁿ b = record { told = plus a.told b.told; fine = admits_plus a.told b.told a.fine b.fine }

  abbrev pub ◌*ⁿ◌ : Number → Number → Number
  a *ⁿ b = record { told = times a.told b.told; fine = admits_times a.told b.told a.fine b.fine }

  abbrev pub negⁿ : Number → Number
  negⁿ a = record { told = opposite a.told; fine = admits_opposite a.told a.fine }

  -- equal fractions are the same number
  pub same : (l r : Number) → Equal l.told r.told → alike l.told r.told
  same l r h = alike_equal l.told r.told l.fine r.fine h

  -- the tops and bottoms of three numbers, for the variables of A', B' and C'
  abbrev pub at : Number → Number → Number → List ℤ
  at a b c = a.told.top ∷ a.told.bottom ∷ b.told.top ∷ b.told.bottom ∷ c.told.top ∷ c.told.bottom ∷ []

  -- each law is one identity of the integers
  pub by : (x y : FE) → norm (x.t :* y.b) ≡ norm (x.b :* y.t) → (ρ : List ℤ) → ⟦◌⟧ integers (x.t :* y.b) ρ ≡ ⟦◌⟧ integers (x.b :* y.t) ρ
  by x y e ρ = solve integers ρ (x.t :* y.b) (x.b :* y.t) e

  pub plus_assoc : (a b c : Number) → alike (a +ⁿ b +ⁿ c).told (a +ⁿ (b +ⁿ c)).told
  plus_assoc a b c = same (a +ⁿ b +ⁿ c) (a +ⁿ (b +ⁿ c)) (by (A' +' B' +' C') (A' +' (B' +' C')) refl (at a b c))

  pub plus_comm : (a b : Number) → alike (a +ⁿ b).told (b +ⁿ a).told
  plus_comm a b = same (a +ⁿ b) (b +ⁿ a) (by (A' +' B') (B' +' A') refl (at a b b))

  pub plus_zero : (a : Number) → alike (a +ⁿ of (pos 0)).told a.told
  plus_zero a = same (a +ⁿ of (pos 0)) a (by (A' +' 0') A' refl (at a a a))

  pub plus_neg : (a : Number) → alike (a +ⁿ negⁿ a).told (whole (pos 0))
  plus_neg a = same (a +ⁿ negⁿ a) (of (pos 0)) (by (A' +' neg' A') 0' refl (at a a a))

  pub times_assoc : (a b c : Number) → alike (a *ⁿ b *ⁿ c).told (a *ⁿ (b *ⁿ c)).told
  times_assoc a b c = same (a *ⁿ b *ⁿ c) (a *ⁿ (b *ⁿ c)) (by (A' *' B' *' C') (A' *' (B' *' C')) refl (at a b c))

  pub times_comm : (a b : Number) → alike (a *ⁿ b).told (b *ⁿ a).told
  times_comm a b = same (a *ⁿ b) (b *ⁿ a) (by (A' *' B') (B' *' A') refl (at a b b))

  pub times_one : (a : Number) → alike (a *ⁿ of (pos 1)).told a.told
  times_one a = same (a *ⁿ of (pos 1)) a (by (A' *' 1') A' refl (at a a a))

  pub times_plus : (a b c : Number) → alike (a *ⁿ (b +ⁿ c)).told (a *ⁿ b +ⁿ a *ⁿ c).told
  times_plus a b c = same (a *ⁿ (b +ⁿ c)) (a *ⁿ b +ⁿ a *ⁿ c) (by (A' *' (B' +' C')) (A' *' B' +' A' *' C') refl (at a b c))

  abbrev pub numbers : Ring
  numbers = record {
    El = Number;
    ◌≈◌ = λ a b. alike a.told b.told;
    𝟘 = of (pos 0);
    𝟙 = of (pos 1);
    ◌⊕◌ = ◌+ⁿ◌;
    ◌⊗◌ = ◌*ⁿ◌;
    neg = negⁿ;
    rf = λ {a}. same a a (by A' A' refl (at a a a));
    sy = λ {a} {b} h. alike_sym a.told b.told a.fine b.fine h;
    tr = λ {a} {b} {c} h k. alike_trans a.told b.told c.told a.fine b.fine c.fine h k;
    add_cong = λ {a} {b} {c} {d} h k. alike_plus a.told b.told c.told d.told a.fine b.fine c.fine d.fine h k;
    mul_cong = λ {a} {b} {c} {d} h k. alike_times a.told b.told c.told d.told a.fine b.fine c.fine d.fine h k;
    neg_cong = λ {a} {b} h. alike_opposite a.told b.told a.fine b.fine h;
    add_assoc = plus_assoc;
    add_comm = plus_comm;
    add_zero = plus_zero;
    add_neg = plus_neg;
    mul_assoc = times_assoc;
    mul_comm = times_comm;
    mul_one = times_one;
    mul_add = times_plus;
  }

  -- ---- steps from number to number
  pub alike_eq : (x : Number) (y : Fraction) → x.told ≡ y → alike x.told y
  alike_eq x y e = subst (λ z. alike x.told z) e (numbers.rf {a = x})

  pub and_then : (x y z : Number) → alike x.told y.told → alike y.told z.told → alike x.told z.told
  and_then x y z e f = numbers.tr {a = x} {b = y} {c = z} e f

  pub back : (x y : Number) → alike x.told y.told → alike y.told x.told
  back x y e = numbers.sy {a = x} {b = y} e

  -- ---- what is not 0 has an inverse
  abbrev pub turnedⁿ : (a : Number) → (alike a.told (whole (pos 0)) → ⊥) → Number
  turnedⁿ a h = record { told = turned a.told; fine = admits_turned a.told a.fine h }

  pub times_turned : (a : Number) (h : alike a.told (whole (pos 0)) → ⊥) → alike (a *ⁿ turnedⁿ a h).told (whole (pos 1))
  times_turned a h = same (a *ⁿ turnedⁿ a h) (of (pos 1)) (by (A' *' record { t = var 1; b = var 0 }) 1' refl (at a a a))
