use Rattle.std.proofs.Common.{◌≡◌, ◌+◌, ◌≤◌, map, length, take, drop, sym, ap, ◌∙◌, subst, arith, length-drop, length-take-le}
use Rattle.std.specs.Result.{is_ok}
use Rattle.std.proofs.lemmas.Slice.{take-put_mid_below, drop-put_mid}
use Rattle.exact.specs.Answers.{value_of}
use Rattle.rows.specs.Row.{done, Leaves}
use Rattle.rows.proofs.Loads.{loaded}
use Rattle.elimination.specs.Held.{needed, line_place, line_at}
use Rattle.elimination.proofs.Frames.{part_own}
use Rattle.elimination.proofs.Places.{line_fits}
use Rattle.elimination.proofs.Ranges.{part, put}
use Rattle.elimination.proofs.holding.write_line.Goals as goal

pub unwrap-requires : goal.unwrap-requires
unwrap-requires g c =
    let a = c.args in
    let n = a.held.n in
    let l = line_place n (length a.held.entries.now) in
    let f = line_fits n (length a.held.entries.now) c.requires.place in
    let size : length (take (n + 1) (drop l a.memory.now)) ≡ n + 1 = length-take-le (n + 1) (drop l a.memory.now) (let d = length-drop l a.memory.now in omega (arith, f, c.requires.room, d)) in
    let part_is = part (a.held.n + 1) c.line.ensures.start c.line.ensures.end a.memory.now in
    ap is_ok (c.load.ensures.answer ∙ ap done (loaded g.K.Number.laws a.line.now c.requires.small _ (ap length part_is ∙ size ∙ sym c.requires.long)))

pub returns : goal.returns
returns g c =
    let a = c.args in
    let n = a.held.n in
    let m = a.memory.now in
    let h = length a.held.entries.now in
    let l = line_place n h in
    let f = line_fits n h c.requires.place in
    let inside : l + (n + 1) ≤ length m = omega (arith, f, c.requires.room) in
    let size : length (take (n + 1) (drop l m)) ≡ n + 1 = length-take-le (n + 1) (drop l m) (let d = length-drop l m in omega (arith, inside, d)) in
    let part_is = part (a.held.n + 1) c.line.ensures.start c.line.ensures.end m in
    let made = loaded g.K.Number.laws a.line.now c.requires.small _ (ap length part_is ∙ size ∙ sym c.requires.long) in
    let v = c.load.new.w in
    let is : v ≡ map (value_of g.K.Number.kind) a.line.now = subst (λ r. Leaves r v) made c.load.ensures.made in
    let long : length v ≡ n + 1 = c.load.auto.w ∙ ap length part_is ∙ size in
    let new = put (a.held.n + 1) c.line.ensures.start c.line.ensures.end m v in
    record {
      line = ap (λ x. line_at n x h) new ∙ part_own l (n + 1) m v inside long ∙ is;
      others = ap (take l) new ∙ take-put_mid_below l (n + 1) m v l (omega arith) (omega arith);
      rest = ap (drop (needed n)) new ∙ drop-put_mid l (n + 1) m v (needed n) f (omega arith) long;
    }
