use Rattle.std.proofs.Common.{◌≡◌, ◌+◌, ◌<◌, All, List, take, Option, None, Some, Ok, Err, length, length-set, get_or, sym, refl, ap, ◌∙◌, subst, ap₂, arith, rules}
use Rattle.std.proofs.lemmas.List.{take_more_set}
use Rattle.std.proofs.lemmas.Result.{err_from_is_err_and}
use Rattle.std.specs.Int.NonZero.{non_zero_usize_get}
use Rattle.std.specs.Option.{ok_or}
use Rattle.bounded.specs.Items.{items}
use Rattle.reading.specs.declared.fault.FormFault.{FormFault}
use Rattle.reading.specs.declared.stage.Stage.TheVariants.{Constant}
use Rattle.reading.specs.declared.term.Term.{Term}
use Rattle.reading.specs.Marks.{mark}
use Rattle.reading.specs.Terms.{Fair}
use Rattle.reading.specs.Reading.{Reads}
use Rattle.reading.specs.Steps.{move, with_ended, final}
use Rattle.reading.proofs.Bounds.{seven}
use Rattle.reading.proofs.Loop.{Sofar, turn, stop, ended, fair, unfinished}
use Rattle.reading.proofs.read.read_line.Goals.{in-Some, in_default}
use Rattle.reading.proofs.read.read_line.Goals as goal

refused : {A : Type 0} (o : Option A) (x y : FormFault) → Err x ≡ ok_or o y → (o ≡ None) × (x ≡ y)
refused None x y e = (refl, cc)
refused (Some v) x y e = (cc, cc)

pub returns-in_err-step : goal.returns-in_err-step
returns-in_err-step c =
    let p = err_from_is_err_and c.from_residual.result c.from_residual.ensures.1 in
    let r = refused c.moved.result c.in_err-step.field-0.0 (record { column = c.get.result }) c.in_err-step.ensures.value in
    let e : c.from.result ≡ mark (get_or c.args.text.now c.loop-i.i 0) = search rules in
    let at : non_zero_usize_get c.saturating_add-column.result ≡ c.loop-i.i + 1 = omega arith in
    let here : c.get.result ≡ c.loop-i.i + 1 = omega arith in
    rw (p.1, p.2, r.1, here) (stop c.loop-i.invariant.0 (omega arith) (omega arith) (rw (← e, ← at) (sym r.0 ∙ c.moved.ensures)))

pub invariant_of-result : goal.invariant_of-result
invariant_of-result c = record {
  fair = subst (All Fair) (sym c.of.ensures) (fair c.loop-i.invariant.0 (omega arith) c.in-Constant.negative _ c.in-Constant.is);
  small = seven _ _ c.figure.invariant.0.0;
  begins = c.figure.invariant.0.1;
}

pub returns-in-Constant : goal.returns-in-Constant
returns-in-Constant c =
    let e = c.in-Constant.is ∙ ap (Constant c.in-Constant.negative) (sym c.figure.view_is) in
    let told = subst (λ ts. Reads c.args.text.now (final c.loop-i.stage (length c.args.text.now + 1) ts)) (sym c.of.ensures) (ended c.loop-i.invariant.0 (omega arith) (omega arith)) in
    subst (λ s. Reads c.args.text.now (final s (length c.args.text.now + 1) (items c.of.result))) e told

pub returns-in_default-stage : goal.returns-in_default-stage
returns-in_default-stage c =
    subst (Reads c.args.text.now) (unfinished c.loop-i.stage (length c.args.text.now + 1) (take c.loop-i.count c.loop-i.places) c.in_default-stage.not-Constant)
    (ended c.loop-i.invariant.0 (omega arith) (omega arith))

taken : {A : Type 0} (o : Option A) (x : A) (y : FormFault) → Ok x ≡ ok_or o y → o ≡ Some x
taken None x y e = cc
taken (Some v) x y e = cc

pub loop-i-preserved : goal.loop-i-preserved
loop-i-preserved c =
    let e : c.from.result ≡ mark (get_or c.args.text.now c.loop-i.i 0) = search rules in
    let at : non_zero_usize_get c.saturating_add-column.result ≡ c.loop-i.i + 1 = omega arith in
    let moved : move c.loop-i.stage (c.loop-i.i + 1) (mark (get_or c.args.text.now c.loop-i.i 0)) ≡ Some c.in_ok-step.step =
    rw (← e, ← at) (sym c.moved.ensures ∙ taken c.moved.result c.in_ok-step.step _ (sym c.in_ok-step.was ∙ c.ok_or.ensures.value)) in
    let t = turn c.loop-i.invariant.0 (omega arith) moved in
    let l = c.loop-i.invariant.1 in
    let long = c.loop-i.invariant.2 in
    let few : c.loop-i.count < length c.loop-i.places = omega (arith, l, long) in
    let same : (done : List Term) → done ≡ with_ended c.in_ok-step.step.ended (take c.loop-i.count c.loop-i.places) → Sofar c.args.text.now (c.loop-i.i + 1) c.in_ok-step.step.next done =
    λ done d. subst (Sofar c.args.text.now (c.loop-i.i + 1) c.in_ok-step.step.next) (sym d) t in
    elim c.match-step.branch [
      | in-Some w ↦ (
        subst (λ s. Sofar c.args.text.now (c.loop-i.i + 1) s (take c.match-step.count c.match-step.places)) (sym w.stage-is)
            (same _ (ap₂ take w.count-is w.places-is ∙ take_more_set c.loop-i.places c.loop-i.count w.in-Some.term few ∙ sym (ap (λ o. with_ended o (take c.loop-i.count c.loop-i.places)) w.in-Some.is))),
        (let n = w.count-is in omega (arith, l, n)),
        ap length w.places-is ∙ length-set c.loop-i.places c.loop-i.count w.in-Some.term ∙ long,
      )
      | in_default w ↦ (
        subst (λ s. Sofar c.args.text.now (c.loop-i.i + 1) s (take c.match-step.count c.match-step.places)) (sym w.stage-is)
            (same _ (ap₂ take w.count-is w.places-is ∙ sym (ap (λ o. with_ended o (take c.loop-i.count c.loop-i.places)) w.in_default.is))),
        (let n = w.count-is in omega (arith, l, n)),
        ap length w.places-is ∙ long,
      )
    ]
