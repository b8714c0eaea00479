use Rattle.std.proofs.Common.{◌≡◌, ◌+◌, Bool, cond, length, is_ok, Ok, Err, Result, sym, refl, ap, ◌∙◌, subst}
use Rattle.std.proofs.lemmas.Result.{err_from_is_err_and}
use Rattle.ledger.specs.Listed.{listed, holding}
use Rattle.elimination.specs.declared.fault.SheetFault.{SheetFault}
use Rattle.elimination.specs.declared.fault.SheetFault.TheVariants.{Numbers}
use Rattle.elimination.specs.Held.{held_in}
use Rattle.elimination.specs.Stating.{HasPlace}
use Rattle.sheet.specs.declared.answer.Stated.{Stated}
use Rattle.sheet.specs.declared.answer.Stated.TheVariants.{Held}
use Rattle.sheet.specs.Contents.{contents, verdict}
use Rattle.sheet.specs.Stored.{stored}
use Rattle.sheet.proofs.Cases.{ok_no_err}
use Rattle.sheet.proofs.Stating.{refused_is, follows_is, taken_is, contents_after, held_count}
use Rattle.sheet.proofs.sheet.Sheet.state.Goals as goal

same : (f f' : SheetFault) → ◌≡◌ {A = Result Stated SheetFault} (Err f) (Err f') → f ≡ f'
same f f' e = cc

pub returns-in_err-state_line : goal.returns-in_err-state_line
unfolding contents stored
returns-in_err-state_line g c =
    let K = g.K.Number.kind in
    let a = c.args in
    let s = a.self.now in
    let l = listed s.ledger in
    let m = s.memory.now in
    let x = c.state_line.ensures in
    let v = verdict K (contents s) a.line.now a.label (length a.records.now) in
    let f = c.in_err-state_line.field-0.0 in
    let p = err_from_is_err_and c.from_residual.result c.from_residual.ensures.1 in
    let says : c.from_residual.result ≡ Err f = p.1 ∙ ap Err p.2 in
    let is = refused_is (contents s) v a.label l f (sym x.answer ∙ c.in_err-state_line.was) in
    record {
      answer = says ∙ is.0;
      contents = contents_after v a.label s.number l l m c.state_line.new.memory is.1 c.state_line.auto.memory x.held;
      records = x.records;
      rest = x.rest;
      lender = refl;
      apart = refl;
      always = λ all f' d. x.always all f' (c.in_err-state_line.was ∙ ap Err (same f (Numbers f') (sym says ∙ d)));
    }

pub returns-in-None : goal.returns-in-None
unfolding contents stored
returns-in-None g c =
    let K = g.K.Number.kind in
    let a = c.args in
    let s = a.self.now in
    let l = listed s.ledger in
    let x = c.state_line.ensures in
    let v = verdict K (contents s) a.line.now a.label (length a.records.now) in
    let is = follows_is (contents s) v a.label l (sym x.answer ∙ c.in_ok-state_line.was ∙ ap Ok c.in-None.is) in
    record {
      answer = is.0;
      contents = contents_after v a.label s.number l l s.memory.now c.state_line.new.memory is.1 c.state_line.auto.memory x.held;
      records = x.records;
      rest = x.rest;
      lender = refl;
      apart = refl;
      always = λ all f' d. ok_no_err d;
    }

pub unwrap-requires : goal.unwrap-requires
unwrap-requires g c = c.hold.ensures.asked ∙ subst (λ o. HasPlace {E = SheetFault} (listed c.args.self.now.ledger) (Ok o)) c.in-Some.is c.in_ok-state_line.ensures.proper

pub returns-in-Some : goal.returns-in-Some
unfolding contents stored
returns-in-Some g c =
    let K = g.K.Number.kind in
    let a = c.args in
    let s = a.self.now in
    let l = listed s.ledger in
    let m = s.memory.now in
    let q = c.in-Some.subject in
    let x = c.state_line.ensures in
    let v = verdict K (contents s) a.line.now a.label (length a.records.now) in
    let is = taken_is (contents s) v a.label l q (sym x.answer ∙ c.in_ok-state_line.was ∙ ap Ok c.in-Some.is) in
    let place : length c.fitting.result.entries.now ≡ length (held_in l m) = ap length c.fitting.ensures.entries ∙ sym (held_count l m) in
    let entered : listed c.hold.new.self ≡ holding a.label q l = c.hold.ensures.after ∙ ap (λ (b : Bool). cond b (holding a.label q l) l) (ap is_ok c.unwrap.ensures) in
    record {
      answer = ap (λ i. Ok (Held (i + 1))) place ∙ is.0;
      contents = contents_after v a.label s.number l (listed c.hold.new.self) m c.state_line.new.memory (entered ∙ is.1) c.state_line.auto.memory x.held;
      records = x.records;
      rest = x.rest;
      lender = refl;
      apart = refl;
      always = λ all f' d. ok_no_err d;
    }
