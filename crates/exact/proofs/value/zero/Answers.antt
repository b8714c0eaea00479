-- Every kind holds 0, so its answer is the value `nil`.
use Rattle.std.proofs.Common.{◌≡◌, Ok, Result, sym, ap, ◌∙◌}
use Rattle.std.specs.Result.{is_ok}
use Rattle.exact.specs.declared.fault.NumberFault.{NumberFault}
use Rattle.exact.specs.Answers.{held, whole_of}
use Rattle.exact.proofs.value.zero.Goals as goal

one_value : {V : Type 0} (v w : V) → ◌≡◌ {A = Result V NumberFault} (Ok v) (Ok w) → v ≡ w
one_value v w e = cc

pub unwrap-requires : goal.unwrap-requires
unfolding whole_of
unwrap-requires g c = ap is_ok (c.whole.ensures ∙ ap held g.K.Number.laws.nil_written)

pub returns : goal.returns
unfolding whole_of
returns g c = one_value c.unwrap.result g.K.Number.kind.nil (sym c.unwrap.ensures ∙ c.whole.ensures ∙ ap held g.K.Number.laws.nil_written)
