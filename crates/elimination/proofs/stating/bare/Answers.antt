use Rattle.std.proofs.Common.{◌≡◌, Bool, cond, [], ◌∷◌, get_or, set, pos, sym, ap, ◌∙◌, w32, SFits, rules}
use mir.ValLaws.{to_z-of_z}
use Rattle.exact.specs.Answers.{value_of}
use Rattle.elimination.specs.Stating.{course, records_after}
use Rattle.elimination.specs.Steps.{follows, clash, one}
use Rattle.elimination.proofs.Verdicts.{bare_steps, first_written}
use Rattle.elimination.proofs.stating.bare.Goals as goal

pub returns-then-is_zero : goal.returns-then-is_zero
returns-then-is_zero g c =
    let K = g.K.Number.kind in
    let a = c.args in
    let z = get_or a.line.now 0 (pos 0) in
    let fits : SFits w32 z = search rules in
    let value : c.value_of-constant.result ≡ value_of K z = c.value_of-constant.ensures ∙ ap (value_of K) (to_z-of_z w32 z fits) in
    let e = bare_steps K a.label a.line.now c.requires.long ∙ ap (λ v. cond (K.is_zero v) follows (clash (record { place = 1; label = a.label; multiplier = one K } ∷ []))) (sym value)
    ∙ ap (λ (b : Bool). cond b follows (clash (record { place = 1; label = a.label; multiplier = one K } ∷ []))) (sym c.if-is_zero.ensures) in
    record { answer = sym (ap course e); proper = tt; records = sym (ap (λ v. records_after v a.records.now) e) }

pub returns : goal.returns
returns g c =
    let K = g.K.Number.kind in
    let a = c.args in
    let z = get_or a.line.now 0 (pos 0) in
    let fits : SFits w32 z = search rules in
    let value : c.value_of-constant.result ≡ value_of K z = c.value_of-constant.ensures ∙ ap (value_of K) (to_z-of_z w32 z fits) in
    let e = bare_steps K a.label a.line.now c.requires.long ∙ ap (λ v. cond (K.is_zero v) follows (clash (record { place = 1; label = a.label; multiplier = one K } ∷ []))) (sym value)
    ∙ ap (λ (b : Bool). cond b follows (clash (record { place = 1; label = a.label; multiplier = one K } ∷ []))) (sym c.if-is_zero.ensures) in
    record {
      answer = sym (ap course e);
      proper = tt;
      records = ap (λ v. set a.records.now 0 (record { place = 1; label = a.label; multiplier = v })) c.value_of.ensures
          ∙ first_written a.records.now (record { place = 1; label = a.label; multiplier = one K }) c.requires.records ∙ sym (ap (λ v. records_after v a.records.now) e);
    }
