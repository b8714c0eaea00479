-- Fractions in lowest terms keep the laws of a kind.
use Rattle.std.specs.Prelude.{◌≡◌, ℕ, suc, ◌≤◌, false, T, ℤ, pos, negsuc, ◌*ℤ◌, Some, None, Option, ◌==◌, unsigned_abs}
use Rattle.std.proofs.Common.{sym, ap, subst, ◌∙◌, inl, arith, eqb→eq}
use Rattle.std.proofs.Math.Nat.{eq-one_of_dvd-one}
use Rattle.std.proofs.Math.IntN.{*ℤ-zero, *ℤ_comm}
use Rattle.exact.specs.Fraction.{Fraction, fraction, Equal, whole}
use Rattle.exact.specs.Kind.{Kind, Lawful}
use Rattle.algebra.specs.Prime.{Admits, Nought}
use Rattle.algebra.proofs.Integers.{*ℤ-1}
use Rattle.algebra.proofs.Ideals.{ordinary_laws}
use Rattle.fractions.specs.declared.ratio.Ratio.{Ratio}
use Rattle.fractions.specs.Gcd.{gcd_within, gcd}
use Rattle.fractions.specs.Value.{tells, within, made, over, value_of, is_zero}
use Rattle.fractions.specs.Told.{Told, told, told_admitted, told_moved, told_once}

unfoldable pub of_whole : (a : ℤ) → unsigned_abs a ≤ 1000000 → Ratio
of_whole a h = record { num = a; den = 1; held = (omega arith, omega arith, h, λ k both. eq-one_of_dvd-one both.1) }

abbrev pub ratio_kind : Kind Ratio
ratio_kind = record { tells = tells; value_of = value_of; is_zero = is_zero; nil = of_whole (pos 0) (omega arith) }

some_same : (v w : Ratio) → ◌≡◌ {A = Option Ratio} (Some v) (Some w) → v ≡ w
some_same v w e = cc

some_none : (v : Ratio) → ◌≡◌ {A = Option Ratio} (Some v) None → ⊥
some_none v e = let z : ◌≡◌ {A = ℕ} 0 1 = cc in omega arith

held : (x : Fraction) (v : Ratio) (o : Option Ratio) → Told x o → o ≡ Some v → Equal (tells v) x
held x v (Some w) t e = subst (λ u. Equal (tells u) x) (some_same w v e) t
held x v None t e = absurd (some_none v (sym e))

unheld : (x : Fraction) (v : Ratio) (o : Option Ratio) → Told x o → o ≡ None → Equal (tells v) x → ⊥
unheld x v (Some w) t e = absurd (some_none w e)
unheld x v None t e = t v

-- the value of a number that a value tells
pub own : (x : Fraction) → Admits Nought x → (v : Ratio) → Equal (tells v) x → value_of x ≡ Some v
own x f v e = told_once x f (value_of x) (Some v) (told x f) e

of_whole_tells : (a : ℤ) (h : unsigned_abs a ≤ 1000000) → Equal (tells (of_whole a h)) (whole a)
unfolding of_whole
of_whole_tells a h = *ℤ_comm a (pos 1)

of_whole_written : (a : ℤ) (h : unsigned_abs a ≤ 1000000) → value_of (whole a) ≡ Some (of_whole a h)
of_whole_written a h = own (whole a) (ordinary_laws.admits_whole a) (of_whole a h) (of_whole_tells a h)

zero_tells : (z : ℤ) (d : ℕ) → T (unsigned_abs z == 0) → z *ℤ pos 1 ≡ pos d *ℤ pos 0
zero_tells (pos n) d t = *ℤ-1 (pos n) ∙ ap pos (eqb→eq n 0 t) ∙ sym (*ℤ-zero (pos d))
zero_tells (negsuc n) d t = let e = eqb→eq (suc n) 0 t in absurd (omega arith)

tells_zero : (z : ℤ) (d : ℕ) → z *ℤ pos 1 ≡ pos d *ℤ pos 0 → T (unsigned_abs z == 0)
tells_zero z d e = subst (λ y. T (unsigned_abs y == 0)) (sym (sym (*ℤ-1 z) ∙ e ∙ *ℤ-zero (pos d))) tt

-- 1/1000001 is beyond the limit
not_all : ((x : Fraction) → Admits Nought x → (v : Ratio) × (value_of x ≡ Some v)) → ⊥
unfolding value_of over made within gcd gcd_within
not_all f =
    let w = f (fraction (pos 1) (pos 1000001)) (λ e. let d : 1000001 ≡ 0 = ap unsigned_abs e in omega arith) in
    some_none w.0 (sym w.1)

pub ratio_laws : Lawful ratio_kind (Admits Nought) Equal false
ratio_laws = record {
  kind = ordinary_laws;
  admitted = told_admitted;
  held = λ x v f. held x v (value_of x) (told x f);
  unheld = λ x v f. unheld x v (value_of x) (told x f);
  by_number = λ x y f g e. told_once x f (value_of x) (value_of y) (told x f) (told_moved y x g f (ordinary_laws.alike_sym x y f g e) (value_of y) (told y g));
  stray = λ v. inl (own (tells v) (told_admitted v) v (*ℤ_comm v.num (pos v.den)));
  wholes = λ a h. (of_whole a h, of_whole_written a h);
  nil_written = of_whole_written (pos 0) (omega arith);
  is_zero = λ v. (zero_tells v.num v.den, tells_zero v.num v.den);
  complete_all = λ e x f. absurd (subst T (sym e) tt);
  all_complete = λ f. absurd (not_all f);
}
