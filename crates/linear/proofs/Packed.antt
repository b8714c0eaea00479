-- The solved form over fractions is that over the ring of a kind's numbers.
use Rattle.std.proofs.Common.{◌≡◌, ℕ, suc, ◌+◌, Bool, true, false, cond, eqb, pos, refl, subst}
use mathlib.Core.Path.{subst⁻¹}
use Rattle.exact.specs.Fraction.{Fraction, whole}
use Rattle.exact.specs.Kind.{KindLaws}
use Rattle.linear.specs.Solved.{SolvedForm}
use Rattle.linear.specs.Linear.{Solved}
use Rattle.linear.proofs.Numbers.{Number, numbers, of, ◌*ⁿ◌}
use Rattle.linear.proofs.Told.{told_sum}

module _ {admits : Fraction → Type 0} {alike : Fraction → Fraction → Type 0} (𝓚 : KindLaws admits alike) where
  pub told_δ : (b : Bool) → (cond b (of 𝓚 (pos 1)) (of 𝓚 (pos 0))).told ≡ cond b (whole (pos 1)) (whole (pos 0))
  told_δ true = refl
  told_δ false = refl

  module _ (n cap h : ℕ) (a r : ℕ → ℕ → Number 𝓚) (s : ℕ → ℕ) where
    pub packed : SolvedForm alike n cap h (λ i u. (a i u).told) (λ j u. (r j u).told) s → Solved (numbers 𝓚) n cap h a r s
    packed t = record {
      subject = t.subject;
      room = t.room;
      own = λ j k b c. subst⁻¹ (λ z. alike (r j (s k)).told z) (told_δ (eqb j k)) (t.own j k b c);
      made = λ j u b c. subst⁻¹ (λ z. alike (r j u).told z) (told_sum 𝓚 h (λ i. ◌*ⁿ◌ 𝓚 (r j (suc n + i)) (a i u))) (t.made j u b c);
      spans = λ i u b c. subst⁻¹ (λ z. alike (a i u).told z) (told_sum 𝓚 h (λ k. ◌*ⁿ◌ 𝓚 (a i (s k)) (r k u))) (t.spans i u b c);
      unit = λ i l b c. subst⁻¹ (λ z. alike (a i (suc n + l)).told z) (told_δ (eqb i l)) (t.unit i l b c);
      blank = t.blank;
    }

    pub unpacked : Solved (numbers 𝓚) n cap h a r s → SolvedForm alike n cap h (λ i u. (a i u).told) (λ j u. (r j u).told) s
    unpacked t = record {
      subject = t.subject;
      room = t.room;
      own = λ j k b c. subst (λ z. alike (r j (s k)).told z) (told_δ (eqb j k)) (t.own j k b c);
      made = λ j u b c. subst (λ z. alike (r j u).told z) (told_sum 𝓚 h (λ i. ◌*ⁿ◌ 𝓚 (r j (suc n + i)) (a i u))) (t.made j u b c);
      spans = λ i u b c. subst (λ z. alike (a i u).told z) (told_sum 𝓚 h (λ k. ◌*ⁿ◌ 𝓚 (a i (s k)) (r k u))) (t.spans i u b c);
      unit = λ i l b c. subst (λ z. alike (a i (suc n + l)).told z) (told_δ (eqb i l)) (t.unit i l b c);
      blank = t.blank;
    }
