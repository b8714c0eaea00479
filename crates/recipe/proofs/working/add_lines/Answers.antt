use Rattle.std.proofs.Common.{◌≤◌, length, sym, subst}
use Rattle.std.specs.List.{AllByRecursion}
use Rattle.sheet.specs.Contents.{contents}
use Rattle.recipe.specs.Evidence.{Evident, answer_row}
use Rattle.recipe.specs.Run.{LineDone}
use Rattle.recipe.proofs.Clashes.{evident, line_done}
use Rattle.recipe.proofs.Lining.{reached_none, reached_more, reached_all}
use Rattle.recipe.proofs.working.add_lines.Goals as goal

pub loop-line-init : goal.loop-line-init
loop-line-init g c =
    let i = c.into_iter-line-iterator.ensures.into_iter_gives in
    rw i (record { callable = tt; finite = tt; counted = c.requires.counted; reached = reached_none _ _ _ _ _ })

pub add_answer-requires-clause-evident : goal.add_answer-requires-clause-evident
add_answer-requires-clause-evident g c =
    let t = c.state_text-answer in
    let k = t.auto.records in
    subst (λ n. Evident n t.result) (sym k)
    (evident g.K.Number.kind (contents c.loop-line.sheet) c.in-Some.line.label c.in-Some.line.bytes.now c.loop-line.records t.result (contents t.new.sheet) t.new.records k t.ensures)

pub loop-line-preserved : goal.loop-line-preserved
loop-line-preserved g c =
    let K = g.K.Number.kind in
    let t = c.state_text-answer in
    let e = c.in-Some.ensures.steps in
    let label = c.in-Some.line.label in
    let text = c.in-Some.line.bytes.now in
    let row = answer_row K label t.result t.new.records in
    let S = contents c.loop-line.sheet in
    let S' = contents t.new.sheet in
    let done = line_done K S label text c.loop-line.records t.result S' t.new.records t.ensures in
    record {
      callable = tt;
      finite = tt;
      counted = (subst (AllByRecursion (λ p. p.0 ≤ 16384)) e c.loop-line.invariant.counted).1;
      reached = reached_more K (length c.args.records.now) _ _ _ S S' _ _ _ _ row label text c.loop-line.invariant.reached e
          (subst (λ n. LineDone K n S label text row S') c.loop-line.auto.records done) c.in_ok-add_answer.ensures;
    }

pub returns : goal.returns
returns g c = reached_all g.K.Number.kind (length c.args.records.now) _ _ _ _ _ _ c.loop-line.invariant.reached c.in-None.ensures.steps.0
