use Rattle.std.proofs.Common.{◌≡◌, ◌+◌, ◌-◌, ◌≤◌, ◌++◌, map, length, take, drop, sym, ap, ◌∙◌, subst, arith, length-append, length-drop, length-take-le}
use Rattle.std.specs.Result.{is_ok}
use borrow.Rule.Slice.PartMut.{put_mid}
use Rattle.std.proofs.lemmas.List.{take_at}
use Rattle.exact.specs.Answers.{value_of}
use Rattle.rows.specs.Row.{done, Leaves}
use Rattle.rows.proofs.Loads.{loaded}
use Rattle.elimination.specs.Held.{wide, row_place, row_at, OnlyRow}
use Rattle.elimination.proofs.Multipliers.{row_opened, row_only}
use Rattle.elimination.proofs.Places.{row_fits, row_length}
use Rattle.elimination.proofs.Ranges.{part, put}
use Rattle.elimination.proofs.working_row.open_row.Goals as goal

pub unwrap-requires : goal.unwrap-requires
unwrap-requires g c =
    let n = c.args.held.n in
    let h = length c.args.held.entries.now in
    let m = c.args.memory.now in
    let s = c.working_row.result.start in
    let w = take (c.working_row.result.end - s) (drop s m) in
    let fits : row_place n h + wide n ≤ length m = let f = row_fits n h c.args.held.held in omega (arith, f, c.requires.room) in
    let long : length w ≡ wide n = ap length (part (wide n) c.working_row.ensures.start c.working_row.ensures.end m) ∙ row_length n h m fits in
    let size = length-take-le (n + 1) w (omega (arith, long)) in
    ap is_ok (c.load.ensures.answer ∙ ap done (loaded g.K.Number.laws c.args.line.now c.requires.small (take (n + 1) w) (size ∙ sym c.requires.long)))

pub returns : goal.returns
returns g c =
    let K = g.K.Number.kind in
    let n = c.args.held.n in
    let h = length c.args.held.entries.now in
    let m = c.args.memory.now in
    let at = c.working_row.ensures in
    let s = c.working_row.result.start in
    let w = take (c.working_row.result.end - s) (drop s m) in
    let values = map (value_of K) c.args.line.now in
    let v = c.load.new.w in
    let x = c.set_multipliers.new.w in
    let fits : row_place n h + wide n ≤ length m = let f = row_fits n h c.args.held.held in omega (arith, f, c.requires.room) in
    let long : length w ≡ wide n = ap length (part (wide n) at.start at.end m) ∙ row_length n h m fits in
    let size = length-take-le (n + 1) w (omega (arith, long)) in
    let made = loaded g.K.Number.laws c.args.line.now c.requires.small (take (n + 1) w) (size ∙ sym c.requires.long) in
    let is : v ≡ values = subst (λ r. Leaves r v) made c.load.ensures.made in
    let size_v : length v ≡ n + 1 = c.load.auto.w ∙ size in
    let w₁ = v ++ drop (n + 1) w in
    let long₁ : length w₁ ≡ wide n = length-append v (drop (n + 1) w) ∙ (let d = length-drop (n + 1) w in omega (arith, size_v, d, long)) in
    let front : take (n + 1) w₁ ≡ values = take_at v (drop (n + 1) w) (n + 1) size_v ∙ is in
    let y = put_mid (n + 1) (length w₁ - (n + 1)) w₁ x in
    let new = put (wide n) at.start at.end m y in
    record {
      row = ap (λ u. row_at n u h) new ∙ row_opened K n h m values w₁ x fits long₁ front c.set_multipliers.auto.w c.set_multipliers.ensures;
      only = subst (OnlyRow n h m) (sym new) (row_only K n h m values w₁ x fits long₁ front c.set_multipliers.auto.w c.set_multipliers.ensures);
    }
