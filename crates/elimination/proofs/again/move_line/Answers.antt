use Rattle.std.proofs.Common.{◌+◌, ◌≤◌, length, arith}
use Rattle.elimination.specs.Held.{line_place}
use Rattle.elimination.proofs.Places.{line_next, line_fits, rest_past}
use Rattle.elimination.proofs.Copies.{copied}
use Rattle.elimination.proofs.again.move_line.Goals as goal

pub returns-then-held-place : goal.returns-then-held-place
returns-then-held-place g c =
    let n = c.args.held.n in
    let h = length c.args.held.entries.now in
    let place = c.args.place in
    let m = c.args.memory.now in
    let m' = c.copy_within.new.self in
    let to = line_place n h in
    let from = line_place n place in
    let next = line_next n h place c.if-held-place.true in
    let past = line_next n h (place + 1) (omega arith) in
    let fits : from + (n + 1) ≤ length m = let f = line_fits n place c.requires.place in omega (arith, f, c.requires.room) in
    let at = c.line.ensures in
    let moved = copied m m' from to (n + 1) at.start at.end c.line-then-held-place.ensures.start c.copy_within.ensures.after (omega (arith, next)) fits in
    record { line = moved.0; others = moved.1; later = rest_past (to + (n + 1)) (line_place n (place + 1)) past m' m moved.2 }
