-- Which answers of a kind's functions are sure to be values, by its laws.
use Rattle.std.proofs.Common.{◌≡◌, ◌≤◌, Bool, true, false, cond, T, ℤ, pos, nat_abs, Ok, Err, sym, refl, ap, ◌∙◌, subst}
use Rattle.exact.specs.declared.fault.NumberFault.TheVariants.{ByZero}
use Rattle.exact.specs.Fraction.{Fraction, whole, times, opposite, turned, less_times, ratio}
use Rattle.exact.specs.Kind.{Kind, Lawful}
use Rattle.exact.specs.Answers.{held, whole_of, less_of, over_of, or_nil, value_of}

truth : (b : Bool) → T b → b ≡ true
truth true t = refl
truth false t = absurd t

module _ {V : Type 0} {K : Kind V} {admits : Fraction → Type 0} {alike : Fraction → Fraction → Type 0} {complete : Bool} (laws : Lawful K admits alike complete) where
  -- 0 is 0
  pub nil_zero : K.is_zero K.nil ≡ true
  nil_zero = truth (K.is_zero K.nil) ((laws.is_zero K.nil).1 (laws.held (whole (pos 0)) K.nil (laws.kind.admits_whole (pos 0)) laws.nil_written))

  -- a whole number up to a million either way
  pub whole_held : (a : ℤ) → nat_abs a ≤ 1000000 → whole_of K a ≡ Ok (value_of K a)
  unfolding whole_of value_of
  whole_held a b = let w = laws.wholes a b in ap held w.1 ∙ ap Ok (sym (ap (λ o. or_nil K (held o)) w.1))

  module _ (all : complete ≡ true) where
    pub whole_always : (a : ℤ) → (v : V) × (whole_of K a ≡ Ok v)
    unfolding whole_of
    whole_always a = let s = laws.complete_all all (whole a) (laws.kind.admits_whole a) in (s.0, ap held s.1)

    pub less_held : (a b c : V) → (v : V) × (less_of K a b c ≡ Ok v)
    unfolding less_of
    less_held a b c =
        let k = laws.kind in
        let x = K.tells a in
        let y = K.tells b in
        let z = K.tells c in
        let product = k.admits_times y z (laws.admitted b) (laws.admitted c) in
        let s = laws.complete_all all (less_times x y z) (k.admits_plus x (opposite (times y z)) (laws.admitted a) (k.admits_opposite (times y z) product)) in
        (s.0, ap held s.1)

    pub over_held : (a b : V) → K.is_zero b ≡ false → (v : V) × (over_of K a b ≡ Ok v)
    unfolding over_of
    over_held a b e =
        let k = laws.kind in
        let x = K.tells a in
        let y = K.tells b in
        let nonzero : (alike y (whole (pos 0)) → ⊥) = λ h. subst T e ((laws.is_zero b).1 h) in
        let s = laws.complete_all all (ratio x y) (k.admits_times x (turned y) (laws.admitted a) (k.admits_turned y (laws.admitted b) nonzero)) in
        (s.0, ap (λ (t : Bool). cond t (Err ByZero) (held (K.value_of (ratio x y)))) e ∙ ap held s.1)
