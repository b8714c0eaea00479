use Rattle.std.proofs.Common.{◌≡◌, ◌+◌, ◌-◌, ◌++◌, vec_items, subst, arith}
use Rattle.sheet.specs.Contents.{contents}
use Rattle.recipe.specs.Run.{settled_rows}
use Rattle.recipe.proofs.Settled.{settled_more}
use Rattle.recipe.proofs.settling.add_all_settled.Goals as goal

pub loop-q-preserved : goal.loop-q-preserved
loop-q-preserved g c =
    let e : c.loop-q.q + 1 - 1 ≡ c.loop-q.q = omega arith in
    record { within = omega arith; rows = settled_more g.K.Number.kind (contents c.args.sheet.now) c.loop-q.q _ _ _ _ (omega arith) e c.loop-q.invariant.rows c.in_ok-add_if_settled.ensures }

pub returns : goal.returns
returns g c =
    let e : c.loop-q.q - 1 ≡ (contents c.args.sheet.now).n = omega (arith, c.set_points-q-end.ensures) in
    subst (λ m. vec_items c.loop-q.out ≡ vec_items c.args.out.now ++ settled_rows g.K.Number.kind (contents c.args.sheet.now) m) e c.loop-q.invariant.rows

pub returns-in_ok-add_if_settled : goal.returns-in_ok-add_if_settled
returns-in_ok-add_if_settled g c =
    let e : (contents c.args.sheet.now).n ≡ c.loop-q.q = omega (arith, c.set_points-q-end.ensures) in
    settled_more g.K.Number.kind (contents c.args.sheet.now) c.loop-q.q _ _ _ _ (omega arith) e c.loop-q.invariant.rows c.in_ok-add_if_settled.ensures
