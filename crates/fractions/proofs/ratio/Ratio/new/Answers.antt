use Rattle.std.proofs.Common.{◌≡◌, ℕ, ◌/◌, not, ℤ, pos, nat_abs, refl, ap, ◌∙◌, ap₂, w32, w64, SFits, to_z, of_z}
use mathlib.Core.Bool.{beq}
use lib.Signed.{lt_z}
use Rattle.std.proofs.lemmas.Int.{to_z-of_z}
use Rattle.fractions.specs.Gcd.{gcd}
use Rattle.fractions.specs.Value.{signed, negative, differ}
use Rattle.fractions.proofs.Made.{Sizes, common_positive, new_lowest, new_held, new_beyond, below_zero, unlike}
use Rattle.fractions.proofs.ratio.Ratio.new.Goals as goal

sizes : {y z : ℤ} {a b g : ℕ} → SFits w64 y → SFits w64 z → (of_z w64 z ≡ 0 → ⊥) → a ≡ nat_abs (to_z w64 (of_z w64 y)) → b ≡ nat_abs (to_z w64 (of_z w64 z)) → g ≡ gcd a b → Sizes y z a b g
sizes {y} {z} k l f d e h = record { nonzero = λ p. f (ap (of_z w64) p); above = d ∙ ap nat_abs (to_z-of_z w64 y k); below = e ∙ ap nat_abs (to_z-of_z w64 z l); common = h }

signs : (y z : ℤ) → SFits w64 y → SFits w64 z → not (beq (lt_z (to_z w64 (of_z w64 y)) (pos 0)) (lt_z (to_z w64 (of_z w64 z)) (pos 0))) ≡ differ (negative y) (negative z)
signs y z f g =
    unlike (lt_z (to_z w64 (of_z w64 y)) (pos 0)) (lt_z (to_z w64 (of_z w64 z)) (pos 0))
    ∙ ap₂ differ (ap (λ x. lt_z x (pos 0)) (to_z-of_z w64 y f) ∙ below_zero y) (ap (λ x. lt_z x (pos 0)) (to_z-of_z w64 z g) ∙ below_zero z)

pub nonzero_div-m : goal.nonzero_div-m
nonzero_div-m c =
    common_positive (sizes c.ranges.top c.ranges.bottom c.if-bottom-eq0.false c.unsigned_abs-above.ensures.value c.unsigned_abs-below.ensures.value c.greatest_common_divisor-common.ensures)

pub nonzero_div-d : goal.nonzero_div-d
nonzero_div-d c =
    common_positive (sizes c.ranges.top c.ranges.bottom c.if-bottom-eq0.false c.unsigned_abs-above.ensures.value c.unsigned_abs-below.ensures.value c.greatest_common_divisor-common.ensures)

pub returns-then-m-gt-LARGEST : goal.returns-then-m-gt-LARGEST
returns-then-m-gt-LARGEST c =
    new_beyond (sizes c.ranges.top c.ranges.bottom c.if-bottom-eq0.false c.unsigned_abs-above.ensures.value c.unsigned_abs-below.ensures.value c.greatest_common_divisor-common.ensures)
    c.then-m-gt-LARGEST.either

pub invariant_of-result : goal.invariant_of-result
invariant_of-result c = record {
  held = new_lowest (sizes c.ranges.top c.ranges.bottom c.if-bottom-eq0.false c.unsigned_abs-above.ensures.value c.unsigned_abs-below.ensures.value c.greatest_common_divisor-common.ensures)
      _ _ (to_z-of_z w32 c.with_sign.result (record { sfits = c.with_sign.type_inv }) ∙ c.with_sign.ensures) c.if-m-gt-LARGEST.false c.if-d-gt-LARGEST.false;
}

pub returns : goal.returns
returns c =
    let m = c.unsigned_abs-above.result / c.greatest_common_divisor-common.result in
    new_held (sizes c.ranges.top c.ranges.bottom c.if-bottom-eq0.false c.unsigned_abs-above.ensures.value c.unsigned_abs-below.ensures.value c.greatest_common_divisor-common.ensures)
    _ (to_z-of_z w32 c.with_sign.result (record { sfits = c.with_sign.type_inv }) ∙ c.with_sign.ensures ∙ ap (λ s. signed s m) (signs c.args.top c.args.bottom c.ranges.top c.ranges.bottom)) refl
