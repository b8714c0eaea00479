use Rattle.std.proofs.Common.{◌≡◌, ℕ, ◌+◌, ◌<◌, length, Ok, Err, Result, sym, refl, ap, ◌∙◌, arith, rules}
use Rattle.std.proofs.lemmas.Result.{err_from_is_err_and}
use Rattle.rows.specs.Row.{done}
use Rattle.elimination.specs.declared.fault.SheetFault.{SheetFault}
use Rattle.elimination.specs.declared.fault.SheetFault.TheVariants.{Numbers}
use Rattle.sheet.specs.declared.fault.ListFault.{ListFault}
use Rattle.sheet.specs.Contents.{contents}
use Rattle.sheet.specs.Listing.{list_refusal}
use Rattle.sheet.specs.Stored.{with_contents}
use Rattle.sheet.proofs.Cases.{ok_no_err}
use Rattle.sheet.proofs.Checking.{size_shown, low_labels, no_numbers, refused_whole, passed_whole, self_apart, begins, as_at, inside, past_it, stops, goes_on, ends}
use Rattle.sheet.proofs.sheet.Sheet.check.Goals as goal

-- the fault of a line
same : (i j : ℕ) (f d : SheetFault) → ◌≡◌ {A = Result ℕ ListFault} (Err (record { index = i; fault = f })) (Err (record { index = j; fault = d })) → f ≡ d
same i j f d e = let z : ◌≡◌ {A = ListFault} (record { index = i; fault = f }) (record { index = j; fault = d }) = cc in ap (λ x. x.fault) z

pub returns-in_err-count : goal.returns-in_err-count
returns-in_err-count g c =
    let a = c.args in
    let s = a.self.now in
    let n = c.fitting-n.result.n in
    let f = c.in_err-count.field-0.0.fault in
    let p = err_from_is_err_and c.from_residual.result c.from_residual.ensures.1 in
    let says : c.from_residual.result ≡ Err c.in_err-count.field-0.0 = p.1 ∙ ap Err p.2 in
    let refused : c.pass_list.result ≡ Err f = search rules in
    let at : c.in_err-count.field-0.0 ≡ record { index = 0; fault = f } = search rules in
    let e : Err f ≡ list_refusal n (length a.list.now) a.first (length a.records.now) = ap done (sym refused) ∙ c.pass_list.ensures.answer in
    let d = refused_whole g.K.Number.kind (contents s) a.list.now a.first a.records.now n (c.fitting-n.ensures.size ∙ size_shown s) f e in
    record {
      answer = says ∙ ap Err at ∙ sym (ap (λ x. x.answer) d);
      contents = sym (ap (λ x. x.contents) d);
      records = sym (ap (λ x. x.records) d);
      rest = refl;
      lender = refl;
      apart = self_apart s;
      always = λ all i f' r. no_numbers n (length a.list.now) a.first (length a.records.now) f' (ap Err (sym (same _ i f (Numbers f') (ap Err (sym at) ∙ sym says ∙ r))) ∙ e);
    }

pub loop-i-init : goal.loop-i-init
loop-i-init g c =
    let lines = c.chunks_exact.ensures in
    let it = c.enumerate-i-items.ensures in
    let is = c.into_iter-i-iterator.ensures.into_iter_gives in
    let start = begins g.K.Number.kind c.args.list.now c.args.first (c.fitting-n.result.n + 1) c.args.self.now c.args.records.now in (
      ap (λ x. x.iter.size) is ∙ ap (λ x. x.size) it.source ∙ lines.size,
      as_at g.K.Number.kind c.args.list.now c.args.first (c.fitting-n.result.n + 1) c.args.self.now c.args.records.now
          (ap (λ x. x.count) is ∙ it.count) (ap (λ x. x.iter.rest.now) is ∙ ap (λ x. x.rest.now) it.source ∙ lines.rest) start,
    )

pub overflow_add-first : goal.overflow_add-first
overflow_add-first g c =
    let a = c.args in
    let n = c.fitting-n.result.n in
    let step = c.in-Some.ensures.steps in
    let t = as_at g.K.Number.kind a.list.now a.first (n + 1) a.self.now a.records.now step.1 (sym step.0.1.0) c.loop-i.invariant.1 in
    let here = inside g.K.Number.kind a.list.now a.first (n + 1) a.self.now a.records.now c.in-Some.i c.in-Some.line.now c.next.new.self.iter.rest.now c.loop-i.self c.loop-i.records (omega arith) (step.0.1.1 ∙ c.loop-i.invariant.0) t in
    let passed : c.pass_list.result ≡ Ok c.in_ok-count.count = search rules in
    let low = low_labels n (length a.list.now) a.first (length a.records.now) (sym c.pass_list.ensures.answer ∙ ap done passed) c.in-Some.i here in
    search rules

pub returns-in_err-map_err : goal.returns-in_err-map_err
returns-in_err-map_err g c =
    let K = g.K.Number.kind in
    let a = c.args in
    let s = a.self.now in
    let list = a.list.now in
    let n = c.fitting-n.result.n in
    let f = c.in_err-map_err.field-0.0.fault in
    let x = c.state.ensures in
    let p = err_from_is_err_and c.from_residual-in_err-map_err.result c.from_residual-in_err-map_err.ensures.1 in
    let says : c.from_residual-in_err-map_err.result ≡ Err c.in_err-map_err.field-0.0 = p.1 ∙ ap Err p.2 in
    let refused : c.state.result ≡ Err f = search rules in
    let at : c.in_err-map_err.field-0.0 ≡ record { index = c.in-Some.i + 1; fault = f } = search rules in
    let passed : c.pass_list.result ≡ Ok c.in_ok-count.count = search rules in
    let step = c.in-Some.ensures.steps in
    let t = as_at K list a.first (n + 1) s a.records.now step.1 (sym step.0.1.0) c.loop-i.invariant.1 in
    let long = step.0.1.1 ∙ c.loop-i.invariant.0 in
    let d = passed_whole K (contents s) list a.first a.records.now n (c.fitting-n.ensures.size ∙ size_shown s) tt (ap done (sym passed) ∙ c.pass_list.ensures.answer)
    ∙ stops K list a.first (n + 1) s a.records.now c.in-Some.i c.in-Some.line.now c.next.new.self.iter.rest.now c.loop-i.self c.loop-i.records (omega arith) long t c.state.new.self c.state.new.records x.contents x.records x.rest f (sym refused ∙ x.answer) in
    record {
      answer = says ∙ ap Err at ∙ sym (ap (λ o. o.answer) d);
      contents = sym (ap (λ o. o.contents) d);
      records = sym (ap (λ o. o.records) d);
      rest = past_it K list a.first (n + 1) s a.records.now c.in-Some.i c.in-Some.line.now c.next.new.self.iter.rest.now c.loop-i.self c.loop-i.records (omega arith) long t c.state.new.self c.state.new.records x.contents x.records x.rest;
      lender = x.lender ∙ c.loop-i.invariant.1.lender;
      apart = x.apart ∙ ap (λ X. with_contents X (contents c.state.new.self)) c.loop-i.invariant.1.apart;
      always = λ all j f' r. x.always all f' (refused ∙ ap Err (same _ j f (Numbers f') (ap Err (sym at) ∙ sym says ∙ r)));
    }

pub loop-i-preserved : goal.loop-i-preserved
loop-i-preserved g c =
    let K = g.K.Number.kind in
    let a = c.args in
    let s = a.self.now in
    let list = a.list.now in
    let n = c.fitting-n.result.n in
    let x = c.state.ensures in
    let went : c.state.result ≡ Ok c.in_ok-map_err.field-0 = search rules in
    let step = c.in-Some.ensures.steps in
    let t = as_at K list a.first (n + 1) s a.records.now step.1 (sym step.0.1.0) c.loop-i.invariant.1 in
    let on = goes_on K list a.first (n + 1) s a.records.now c.in-Some.i c.in-Some.line.now c.next.new.self.iter.rest.now c.loop-i.self c.loop-i.records (omega arith) (step.0.1.1 ∙ c.loop-i.invariant.0) t c.state.new.self c.state.new.records x.contents x.records x.rest _ (sym went ∙ x.answer) x.lender x.apart in
    (step.0.0 ∙ c.loop-i.invariant.0, as_at K list a.first (n + 1) s a.records.now (step.2 ∙ ap (λ k. k + 1) (sym step.1)) refl on)

pub returns : goal.returns
returns g c =
    let K = g.K.Number.kind in
    let a = c.args in
    let s = a.self.now in
    let list = a.list.now in
    let n = c.fitting-n.result.n in
    let it = c.loop-i.i-iterator in
    let short : length it.iter.rest.now < n + 1 = let b = c.in-None.ensures.steps.0.1.0 in let e = c.loop-i.invariant.0 in omega (arith, b, e) in
    let passed : c.pass_list.result ≡ Ok c.in_ok-count.count = search rules in
    let d = passed_whole K (contents s) list a.first a.records.now n (c.fitting-n.ensures.size ∙ size_shown s) tt (ap done (sym passed) ∙ c.pass_list.ensures.answer)
    ∙ ends K list a.first (n + 1) s a.records.now it.count it.iter.rest.now c.loop-i.self c.loop-i.records short c.loop-i.invariant.1 in
    record {
      answer = ap (λ k. Ok (k + 1)) (c.pass_list.ensures.count _ passed) ∙ sym (ap (λ o. o.answer) d);
      contents = sym (ap (λ o. o.contents) d);
      records = sym (ap (λ o. o.records) d);
      rest = c.loop-i.invariant.1.past;
      lender = c.loop-i.invariant.1.lender;
      apart = c.loop-i.invariant.1.apart;
      always = λ all j f' r. ok_no_err r;
    }
