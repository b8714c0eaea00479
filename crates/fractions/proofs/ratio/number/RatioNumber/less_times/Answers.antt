use Rattle.std.proofs.Common.{◌≡◌, ◌*◌, [], ◌∷◌, ℤ, pos, ◌+ℤ◌, ◌-ℤ◌, ◌*ℤ◌, neg_ℤ, nat_abs, sym, refl, ap, ◌∙◌, ap₂, mul-pos, arith}
use Rattle.algebra.proofs.Integers.{integers}
use Rattle.algebra.proofs.Solver.{var, ◌:-◌, ◌:+◌, ◌:*◌, :neg, solve}
use Rattle.exact.specs.Answers.{less_of}
use Rattle.fractions.specs.declared.ratio.Ratio.{Ratio}
use Rattle.fractions.specs.Making.{new_of}
use Rattle.fractions.proofs.Made.{new_nonzero}
use Rattle.fractions.proofs.Wide.{num_is, den_is, times_is, times_fits, minus_fits, minus_is}
use Rattle.fractions.proofs.ratio.number.RatioNumber.less_times.Goals as goal

pub overflow_mul-first : goal.overflow_mul-first
overflow_mul-first c = times_fits tt (num_is c.args.self c.from-3.ensures) (times_is tt (den_is c.args.b c.from.ensures) (den_is c.args.c c.from-2.ensures))

pub overflow_mul-second-2 : goal.overflow_mul-second-2
overflow_mul-second-2 c = times_fits tt (den_is c.args.self c.from-4.ensures) (times_is tt (num_is c.args.b c.from-5.ensures) (num_is c.args.c c.from-6.ensures))

pub overflow_sub-top : goal.overflow_sub-top
overflow_sub-top c =
    minus_fits
    (times_is tt (num_is c.args.self c.from-3.ensures) (times_is tt (den_is c.args.b c.from.ensures) (den_is c.args.c c.from-2.ensures)))
    (times_is tt (den_is c.args.self c.from-4.ensures) (times_is tt (num_is c.args.b c.from-5.ensures) (num_is c.args.c c.from-6.ensures)))

pub overflow_mul-from : goal.overflow_mul-from
overflow_mul-from c = times_fits tt (den_is c.args.self c.from-7.ensures) (times_is tt (den_is c.args.b c.from.ensures) (den_is c.args.c c.from-2.ensures))

lowered : (a b p q : ℤ) → a *ℤ b -ℤ p *ℤ q ≡ a *ℤ b +ℤ p *ℤ neg_ℤ q
lowered a b p q = solve integers (a ∷ b ∷ p ∷ q ∷ []) (var 0 :* var 1 :- var 2 :* var 3) (var 0 :* var 1 :+ var 2 :* :neg (var 3)) refl

bottom_not_zero : (a b c : Ratio) → pos (a.den * (b.den * c.den)) ≡ pos 0 → ⊥
bottom_not_zero a b c e =
    let d : a.den * (b.den * c.den) ≡ 0 = ap nat_abs e in
    omega (arith, mul-pos a.held.0 (mul-pos b.held.0 c.held.0))

pub returns : goal.returns
unfolding less_of
returns c =
    let a = c.args.self in
    let b = c.args.b in
    let d = c.args.c in
    let below = times_is tt (den_is b c.from.ensures) (den_is d c.from-2.ensures) in
    let first = times_is tt (num_is a c.from-3.ensures) below in
    let second = times_is tt (den_is a c.from-4.ensures) (times_is tt (num_is b c.from-5.ensures) (num_is d c.from-6.ensures)) in
    let bottom = times_is tt (den_is a c.from-7.ensures) below in
    let top = minus_is first second ∙ lowered a.num (pos b.den *ℤ pos d.den) (pos a.den) (b.num *ℤ d.num) in
    c.new.ensures ∙ ap₂ new_of top bottom.is ∙ sym (new_nonzero _ _ (bottom_not_zero a b d))
