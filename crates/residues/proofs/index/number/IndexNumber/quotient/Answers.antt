use Rattle.std.proofs.Common.{ℕ, ◌%◌, ◌^◌, ◌<◌, ◌≤◌, cond, eqb, pos, Ok, Err, sym, ap, ◌∙◌, mod-lt, arith}
use Rattle.std.proofs.lemmas.Bool.{ne_eqb}
use Rattle.exact.specs.declared.fault.NumberFault.TheVariants.{ByZero}
use Rattle.exact.specs.Answers.{held, over_of}
use Rattle.exact.specs.Fraction.{ratio}
use Rattle.residues.specs.IndexKind.{index, indices, index_kind}
use Rattle.residues.specs.Rest.{reciprocal}
use Rattle.residues.specs.ResidueLaws.{over_made}
use Rattle.residues.proofs.Narrow.{product_is}
use Rattle.residues.proofs.index.number.IndexNumber.quotient.Goals as goal

reciprocal_small : (n : ℕ) → reciprocal 127 n ≤ 255
unfolding reciprocal
reciprocal_small n = let h : n ^ 125 % 127 < 127 = mod-lt (n ^ 125) (omega arith) in omega arith

pub returns-then-b-eq0 : goal.returns-then-b-eq0
unfolding over_of
returns-then-b-eq0 c =
    let K = index_kind in
    sym (ap (λ (n : ℕ). cond (eqb n 0) (Err ByZero) (held (K.value_of (ratio (K.tells c.args.self) (K.tells c.args.b))))) c.if-b-eq0.true)

pub returns : goal.returns
unfolding over_of
returns c =
    let K = index_kind in
    let v = held (K.value_of (ratio (K.tells c.args.self) (K.tells c.args.b))) in
    ap Ok (c.from-3.ensures ∙ ap index (product_is c.from.ensures (c.from-2.ensures ∙ ap pos c.reciprocal_of.ensures) (omega (arith, c.args.self.below)) (reciprocal_small c.args.b.teeth))) ∙ sym (ap held (over_made indices c.args.self c.args.b c.if-b-eq0.false))
    ∙ sym (ap (λ t. cond t (Err ByZero) v) (ne_eqb c.args.b.teeth 0 c.if-b-eq0.false))
