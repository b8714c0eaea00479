use Rattle.std.proofs.Common.{vec_items}
use Rattle.std.proofs.lemmas.Result.{IfOk-weaker}
use Rattle.recipe.specs.Transcribed.{Transcribed}
use Rattle.recipe.proofs.Labelling.{counted}
use Rattle.recipe.proofs.Openings.{unopened, is_opened}
use Rattle.recipe.proofs.transcript.transcript.Goals as goal

pub worked-requires : goal.worked-requires
worked-requires c =
    let o = c.in-Ok.ensures in
    record { size = (o.1.1, o.1.2); counted = counted c.of-lines.result c.open_input.new.input c.of-lines.ensures.label o.0 }

pub returns-in-Ok : goal.returns-in-Ok
returns-in-Ok c =
    IfOk-weaker c.worked.result _ (λ v. Transcribed c.args.input.now (vec_items v))
    (λ v w. is_opened c.args.input.now (vec_items v) c.of-lines.result c.open_input.new.input c.in-Ok.heading c.of-lines.ensures.rest c.of-lines.ensures.label c.in-Ok.ensures w)
    c.worked.ensures

pub returns-in-Err : goal.returns-in-Err
returns-in-Err c =
    IfOk-weaker c.refused.result _ (λ v. Transcribed c.args.input.now (vec_items v))
    (λ v w. unopened c.args.input.now (vec_items v) c.of-lines.result c.open_input.new.input c.in-Err.fault c.of-lines.ensures.rest c.in-Err.ensures w)
    c.refused.ensures
