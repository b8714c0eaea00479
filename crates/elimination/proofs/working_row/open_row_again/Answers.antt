use Rattle.std.proofs.Common.{◌≡◌, ◌+◌, ◌-◌, ◌≤◌, length, take, drop, sym, ap, ◌∙◌, subst, arith, take-take}
use borrow.Rule.Slice.PartMut.{put_mid}
use Rattle.elimination.specs.Held.{wide, row_place, line_place, row_at, line_at, OnlyRow}
use Rattle.elimination.proofs.Copies.{copied}
use Rattle.elimination.proofs.Frames.{only_then}
use Rattle.elimination.proofs.Multipliers.{row_opened, row_only}
use Rattle.elimination.proofs.Places.{row_fits, row_line, row_length, line_fits, rest_past}
use Rattle.elimination.proofs.Ranges.{part, put}
use Rattle.elimination.proofs.working_row.open_row_again.Goals as goal

pub returns : goal.returns
returns g c =
    let K = g.K.Number.kind in
    let n = c.args.held.n in
    let h = length c.args.held.entries.now in
    let r = row_place n h in
    let from = line_place n c.args.place in
    let m = c.args.memory.now in
    let m₁ = c.copy_within.new.self in
    let x = c.set_multipliers.new.w in
    let room : r + wide n ≤ length m = let f = row_fits n h c.args.held.held in omega (arith, f, c.requires.room) in
    let next = row_line n h c.args.place c.args.held.held in
    let inside : from + (n + 1) ≤ length m = let b = line_fits n c.args.place c.requires.place in omega (arith, b, c.requires.room) in
    let at = c.line.ensures in
    let moved = copied m m₁ from r (n + 1) at.start at.end c.working_row.ensures.start c.copy_within.ensures.after (omega (arith, next)) inside in
    let to = c.working_row-2.ensures in
    let s = c.working_row-2.result.start in
    let w = take (c.working_row-2.result.end - s) (drop s m₁) in
    let is : w ≡ row_at n m₁ h = part (wide n) to.start to.end m₁ in
    let fits : r + wide n ≤ length m₁ = let e = c.copy_within.ensures.len in omega (arith, e, room) in
    let long : length w ≡ wide n = ap length is ∙ row_length n h m₁ fits in
    let front : take (n + 1) w ≡ line_at n m c.args.place = ap (take (n + 1)) is ∙ take-take (n + 1) (wide n) (drop r m₁) (omega arith) ∙ moved.0 in
    let y = put_mid (n + 1) (length w - (n + 1)) w x in
    let new = put (wide n) to.start to.end m₁ y in
    let only : OnlyRow n h m m₁ = record { before = moved.1; after = rest_past (r + (n + 1)) (r + wide n) (omega arith) m₁ m moved.2 } in
    record {
      row = ap (λ u. row_at n u h) new ∙ row_opened K n h m₁ (line_at n m c.args.place) w x fits long front c.set_multipliers.auto.w c.set_multipliers.ensures;
      only = only_then n h m m₁ _ only (subst (OnlyRow n h m₁) (sym new) (row_only K n h m₁ (line_at n m c.args.place) w x fits long front c.set_multipliers.auto.w c.set_multipliers.ensures));
    }
