-- Remainders keep the laws of a kind, by any modulus at which all but 0 have reciprocals.
use Rattle.std.specs.Prelude.{◌≡◌, ℕ, ◌*◌, ◌%◌, ◌<◌, true, cond, T, [], ◌∷◌, ℤ, pos, ◌-ℤ◌, ◌*ℤ◌, Some, None, Option, ◌==◌, ◌≢◌, refl}
use Rattle.std.proofs.Common.{sym, subst, ◌∙◌, inl, arith, eqb→eq}
use Rattle.std.proofs.Math.Path.{ap}
use Rattle.std.proofs.lemmas.Bool.{ne_eqb}
use Rattle.std.proofs.Math.IntN.{*ℤ_comm}
use Rattle.exact.specs.Fraction.{Fraction, whole, times, opposite, turned, less_times, ratio}
use Rattle.exact.specs.Kind.{KindLaws, Lawful}
use Rattle.algebra.specs.Prime.{Admits, Alike, Multiple}
use Rattle.algebra.proofs.Ideals.{residue_laws}
use Rattle.algebra.proofs.Solver.{var, :0, :1, ◌:+◌, ◌:-◌, ◌:*◌, :neg}
use Rattle.residues.specs.Rest.{rest, reciprocal}
use Rattle.residues.specs.Residue.{residue_of, residue_kind}
use Rattle.residues.specs.Remainders as R

-- one value for each remainder
pub record Residues (p : ℕ) {V : Type 0} (number : V → ℕ) (make : ℤ → V) : Type 0 where
  pub large : 1 < p
  pub right : (n : ℕ) → 0 < n → n < p → (n * reciprocal p n) % p ≡ 1
  pub below : (v : V) → number v < p
  pub made : (z : ℤ) → number (make z) ≡ rest p z
  pub once : (v w : V) → number v ≡ number w → v ≡ w

module _ {p : ℕ} {V : Type 0} {number : V → ℕ} {make : ℤ → V} (𝓡 : Residues p number make) where
  open 𝓡 use {large, right, below, made, once}

  laws : KindLaws (Admits (Multiple p)) (Alike (Multiple p))
  laws = residue_laws p large (reciprocal p) right

  abbrev tells : V → Fraction
  tells v = whole (pos (number v))

  abbrev value_of : Fraction → Option V
  value_of = residue_of p number make

  unique : (v w : V) → Alike (Multiple p) (tells v) (tells w) → v ≡ w
  unique v w h = once v w (R.small p large right (number v) (number w) (below v) (below w) (R.turn p large right (pos (number v) ∷ pos (number w) ∷ []) (var 0 :* :1 :- :1 :* var 1) (var 0 :- var 1) refl h))

  -- the value made of z tells x, where z is x
  made_tells : (x : Fraction) (z : ℤ) → Multiple p (z *ℤ x.bottom -ℤ x.top) → Alike (Multiple p) (tells (make z)) x
  made_tells x z h =
      subst (λ (n : ℕ). Multiple p (pos n *ℤ x.bottom -ℤ pos 1 *ℤ x.top)) (sym (made z))
      (R.turn p large right (pos (rest p z) ∷ z ∷ x.top ∷ x.bottom ∷ []) (var 3 :* (var 0 :- var 1) :+ :1 :* (var 1 :* var 3 :- var 2)) (var 0 :* var 3 :- :1 :* var 2) refl
      (R.combined p large right x.bottom (pos (rest p z) -ℤ z) (pos 1) (z *ℤ x.bottom -ℤ x.top) (R.rest_is p large right z) h))

  abbrev chosen : Fraction → ℤ
  chosen x = x.top *ℤ pos (reciprocal p (rest p x.bottom))

  chosen_tells : (x : Fraction) → Admits (Multiple p) x → Alike (Multiple p) (tells (make (chosen x))) x
  chosen_tells x f =
      let i = pos (reciprocal p (rest p x.bottom)) in
      made_tells x (chosen x)
      (R.turn p large right (x.top ∷ x.bottom ∷ i ∷ []) (var 0 :* (var 1 :* var 2 :- :1)) (var 0 :* var 2 :* var 1 :- var 0) refl
      ((R.ideal p large right).has_multiple x.top (x.bottom *ℤ i -ℤ pos 1) (R.inverse_is p large right x.bottom f)))

  has_value : (x : Fraction) → Admits (Multiple p) x → value_of x ≡ Some (make (chosen x))
  unfolding residue_of
  has_value x f = ap (λ b. cond b None (Some (make (chosen x)))) (ne_eqb (rest p x.bottom) 0 (λ e. f (R.rest_zero p large right x.bottom e)))

  -- the value of a number is the one that tells it
  written : (x : Fraction) → Admits (Multiple p) x → (v : V) → Alike (Multiple p) (tells v) x → value_of x ≡ Some v
  written x f v h =
      let w = make (chosen x) in
      has_value x f ∙ ap Some (unique w v (laws.alike_trans (tells w) x (tells v) (admitted w) f (admitted v) (chosen_tells x f) (laws.alike_sym (tells v) x (admitted v) f h)))
    where
      admitted : (v : V) → Admits (Multiple p) (tells v)
      admitted v = laws.admits_whole (pos (number v))

  some_same : (v w : V) → ◌≡◌ {A = Option V} (Some v) (Some w) → v ≡ w
  some_same v w e = cc

  some_none : (v : V) → ◌≡◌ {A = Option V} (Some v) None → ⊥
  some_none v e = let z : ◌≡◌ {A = ℕ} 0 1 = cc in omega arith

  held : (x : Fraction) (v : V) → Admits (Multiple p) x → value_of x ≡ Some v → Alike (Multiple p) (tells v) x
  held x v f e = subst (λ u. Alike (Multiple p) (tells u) x) (some_same (make (chosen x)) v (sym (has_value x f) ∙ e)) (chosen_tells x f)

  by_number : (x y : Fraction) → Admits (Multiple p) x → Admits (Multiple p) y → Alike (Multiple p) x y → value_of x ≡ value_of y
  by_number x y f g h =
      let w = make (chosen x) in
      has_value x f ∙ sym (written y g w (laws.alike_trans (tells w) x y (laws.admits_whole (pos (number w))) f g (chosen_tells x f) h))

  itself : (v : V) → Alike (Multiple p) (tells v) (tells v)
  itself v = laws.alike_equal (tells v) (tells v) (laws.admits_whole (pos (number v))) (laws.admits_whole (pos (number v))) (*ℤ_comm (pos (number v)) (pos 1))

  -- ---- what the functions make
  pub whole_made : (a : ℤ) → value_of (whole a) ≡ Some (make a)
  whole_made a =
      written (whole a) (laws.admits_whole a) (make a)
      (made_tells (whole a) a (R.turn p large right (a ∷ []) :0 (var 0 :* :1 :- var 0) refl (R.ideal p large right).has_zero))

  pub less_made : (a b c : V) → value_of (less_times (tells a) (tells b) (tells c)) ≡ Some (make (pos (number a) -ℤ pos (number b) *ℤ pos (number c)))
  less_made a b c =
      let z = pos (number a) -ℤ pos (number b) *ℤ pos (number c) in
      let x = less_times (tells a) (tells b) (tells c) in
      let in_x = laws.admits_plus (tells a) (opposite (times (tells b) (tells c))) (laws.admits_whole (pos (number a))) (laws.admits_opposite (times (tells b) (tells c)) (laws.admits_times (tells b) (tells c) (laws.admits_whole (pos (number b))) (laws.admits_whole (pos (number c))))) in
      written x in_x (make z)
      (made_tells x z
      (R.turn p large right (pos (number a) ∷ pos (number b) ∷ pos (number c) ∷ []) :0 ((var 0 :- var 1 :* var 2) :* (:1 :* (:1 :* :1)) :- (var 0 :* (:1 :* :1) :+ :1 :* :neg (var 1 :* var 2))) refl (R.ideal p large right).has_zero))

  zero_tells : (v : V) → number v ≡ 0 → Alike (Multiple p) (tells v) (whole (pos 0))
  zero_tells v e = subst (λ (n : ℕ). Alike (Multiple p) (whole (pos n)) (whole (pos 0))) (sym e) (R.ideal p large right).has_zero

  tells_zero : (v : V) → Alike (Multiple p) (tells v) (whole (pos 0)) → number v ≡ 0
  tells_zero v h = R.small p large right (number v) 0 (below v) (omega arith) (R.turn p large right (pos (number v) ∷ []) (var 0 :* :1 :- :1 :* :0) (var 0 :- :0) refl h)

  pub over_made : (a b : V) → (number b ≢ 0) → value_of (ratio (tells a) (tells b)) ≡ Some (make (pos (number a) *ℤ pos (reciprocal p (number b))))
  over_made a b f =
      let i = pos (reciprocal p (number b)) in
      let z = pos (number a) *ℤ i in
      let x = ratio (tells a) (tells b) in
      let in_x = laws.admits_times (tells a) (turned (tells b)) (laws.admits_whole (pos (number a))) (laws.admits_turned (tells b) (laws.admits_whole (pos (number b))) (λ h. f (tells_zero b h))) in
      written x in_x (make z)
      (made_tells x z
      (R.turn p large right (pos (number a) ∷ pos (number b) ∷ i ∷ []) (var 0 :* (var 1 :* var 2 :- :1)) (var 0 :* var 2 :* (:1 :* var 1) :- var 0 :* :1) refl
      ((R.ideal p large right).has_multiple (pos (number a)) (pos (number b) *ℤ i -ℤ pos 1) (R.reciprocal_is p large right (number b) (omega arith) (below b)))))

  pub same_number : (v w : V) → Alike (Multiple p) (tells v) (tells w) → number v ≡ number w
  same_number v w h = ap number (unique v w h)

  pub number_same : (v w : V) → number v ≡ number w → Alike (Multiple p) (tells v) (tells w)
  number_same v w e = subst (λ (n : ℕ). Alike (Multiple p) (tells v) (whole (pos n))) e (itself v)

  pub residue_lawful : Lawful (residue_kind p number make) (Admits (Multiple p)) (Alike (Multiple p)) true
  residue_lawful = record {
    kind = laws;
    admitted = λ v. laws.admits_whole (pos (number v));
    held = held;
    unheld = λ x v f e. absurd (some_none (make (chosen x)) (sym (has_value x f) ∙ e));
    by_number = by_number;
    stray = λ v. inl (written (tells v) (laws.admits_whole (pos (number v))) v (itself v));
    wholes = λ a _. (make a, whole_made a);
    nil_written = whole_made (pos 0);
    is_zero = λ v. (λ t. zero_tells v (eqb→eq (number v) 0 t), λ h. subst (λ (n : ℕ). T (n == 0)) (sym (tells_zero v h)) tt);
    complete_all = λ _ x f. (make (chosen x), has_value x f);
    all_complete = λ _. refl;
  }
