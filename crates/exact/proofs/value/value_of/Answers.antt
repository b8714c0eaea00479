use Rattle.std.proofs.Common.{rules, ◌≡◌, Ok, Err, Result, ap, ◌∙◌, w32}
use Rattle.std.specs.Result.{MatchResult}
use Rattle.std.proofs.lemmas.Int.{to_z-of_z}
use Rattle.exact.specs.declared.fault.NumberFault.{NumberFault}
use Rattle.exact.specs.Answers.{or_nil, whole_of, value_of}
use Rattle.exact.specs.Kind.{Kind}
use Rattle.exact.proofs.value.value_of.Goals as goal

unwrapped : {V : Type 0} {Q : NumberFault → Type 0} (K : Kind V) (r : Result V NumberFault) (v : V) → ((f : NumberFault) → Q f → v ≡ K.nil) → MatchResult r (λ w. v ≡ w) Q → v ≡ or_nil K r
unwrapped K (Ok w) v q e = e
unwrapped K (Err f) v q e = q f e

pub returns : goal.returns
unfolding value_of
returns g c =
    let K = g.K.Number.kind in
    unwrapped K c.whole.result c.unwrap_or_else.result (λ f q. search rules) c.unwrap_or_else.ensures ∙ ap (or_nil K) c.whole.ensures ∙ ap (λ a. or_nil K (whole_of K a)) (to_z-of_z w32 c.args.a c.ranges.a)
