use Rattle.std.proofs.Common.{◌≡◌, ◌+◌, ◌≤◌, length, drop}
use Rattle.elimination.proofs.Telling.{Told}
use Rattle.elimination.proofs.clash.tell_clash.Given as goal

abbrev pub invariant-loop-j : goal.invariant-loop-j
invariant-loop-j g l =
    let n = l.held.n in
    let es = l.held.entries.now in
    let j = l.j-iterator.count in
    record {
      entries : l.j-iterator.iter.a.rest.now ≡ drop j es;
      multipliers : l.j-iterator.iter.b.rest.now ≡ drop (n + 1 + j) l.w;
      few : l.count ≤ length es;
      told : Told g.K.Number.kind n l.w es l.initial.records j l.count l.records;
    }
