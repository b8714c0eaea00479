use Rattle.std.proofs.Common.{◌≡◌, ℕ, ◌+◌, ◌<◌, ◌≤◌, if◌then◌else◌, min, Bool, cond, List, [], length, get_or, take, drop, sym, refl, ap, ◌∙◌, subst, ap₂, arith, length-take-le, take_all}
use native.Mathlib.Decide.{dec_le}
use Rattle.ledger.specs.declared.entry.Entry.{Entry}
use Rattle.ledger.specs.declared.ledger.Ledger.{Ledger}
use Rattle.ledger.specs.Entries.{blank}
use Rattle.ledger.specs.Listed.{listed, empty, holding}
use Rattle.elimination.specs.Held.{used, size_in, held_lines, held_in}
use Rattle.elimination.proofs.Remaining.{held_is, held_count}
use Rattle.elimination.proofs.Shown.{sound_size}
use Rattle.elimination.proofs.Tests.{at_most}
use Rattle.elimination.specs.Again.{restated}
use Rattle.elimination.specs.Stating.{entered}
use Rattle.elimination.proofs.Restated.{Gone, gone_start, gone_size, gone_more, gone_all, verdict, entered_taken, entered_none, size_same, shown_few, first_lines}
use Rattle.elimination.proofs.restating.restate.Goals as goal
use Rattle.elimination.proofs.restating.restate.Goals.{in-Some, in_default}

-- a ledger of as many set points
same_size : (l l' : Ledger) (k : ℕ) → k ≡ (listed l).n → listed l' ≡ empty k → (listed l').n ≡ (listed l).n
same_size l l' k e d = ap (λ t. t.n) d ∙ ap (λ j. cond j k 0) (at_most k 48 (let s = (sound_size l).0 in omega (arith, s, e))) ∙ e

take_min : {X : Type 0} (k a : ℕ) (xs : List X) → k ≡ min a (length xs) → take k xs ≡ take a xs
take_min k a xs e = go (dec_le a (length xs))
  where
    go : Dec (a ≤ length xs) → take k xs ≡ take a xs
    go (yes h) = let d : k ≡ a = omega arith in ap (λ i. take i xs) d
    go (no h) = take_all k xs (omega arith) ∙ sym (take_all a xs (omega arith))

pub loop-place-init : goal.loop-place-init
loop-place-init g c = gone_start g.K.Number.kind (listed c.new.result) c.args.memory.now (take c.min.result c.fitting.result.entries.now) (ap (λ t. t.entries) c.new.ensures)

-- the place is that of a line, and of a set point
module _ (l l' : Ledger) (es : List Entry) (k n have i again : ℕ) where
  inside : listed l' ≡ empty k → k ≡ (listed l).n → n ≡ size_in (listed l) have → length es ≤ n → i < length (take again es) → again ≤ length es → (i < length (take again es)) × (i < size_in (listed l') have)
  inside d e size few b c = (
    b,
    subst (λ x. i < x) (size ∙ sym (size_same (listed l') (listed l) have have (same_size l l' k e d) refl)) (let t = length-take-le again es c in omega (arith, t)),
  )

pub restate_line-requires : goal.restate_line-requires
restate_line-requires g c =
    let K = g.K.Number.kind in
    let l₀ = listed c.new.result in
    let m₀ = c.args.memory.now in
    let es = take c.min.result c.fitting.result.entries.now in
    let l = listed c.loop-place.ledger in
    let m = c.loop-place.memory in
    let i = c.loop-place.place in
    let within : c.min.result ≤ length c.fitting.result.entries.now = omega (arith, c.min.ensures) in
    let at = inside c.args.ledger.now c.new.result c.fitting.result.entries.now c.set_points.result c.fitting.result.n (length m₀) i c.min.result c.new.ensures c.set_points.ensures c.fitting.ensures.size c.fitting.result.held c.loop-place-test.true within in
    record {
      held = shown_few l (length m) i c.loop-place.invariant.few;
      place = subst (λ x. i < x) (sym (gone_size K l₀ m₀ es i l m c.loop-place.invariant)) at.1;
    }

pub loop-place-preserved : goal.loop-place-preserved
loop-place-preserved g c =
    let K = g.K.Number.kind in
    let l₀ = listed c.new.result in
    let m₀ = c.args.memory.now in
    let all = c.fitting.result.entries.now in
    let es = take c.min.result all in
    let l = listed c.loop-place.ledger in
    let m = c.loop-place.memory in
    let m' = c.restate_line.new.memory in
    let i = c.loop-place.place in
    let s = c.loop-place.invariant in
    let x = c.restate_line.ensures in
    let within : c.min.result ≤ length all = omega (arith, c.min.ensures) in
    let at = inside c.args.ledger.now c.new.result all c.set_points.result c.fitting.result.n (length m₀) i c.min.result c.new.ensures c.set_points.ensures c.fitting.ensures.size c.fitting.result.held c.loop-place-test.true within in
    let label = (get_or es i blank).label in
    let v = verdict K l₀ m₀ es i at.0 at.1 l m s in
    let l' = listed c.match-restate_line.ledger in
    let more : l' ≡ entered v label l → Gone K l₀ m₀ es (i + 1) l' m' = λ is. gone_more K l₀ m₀ es i at.0 at.1 l m s l' m' c.restate_line.auto.memory is (x.held label) x.later in
    elim c.match-restate_line.branch [
      | in-Some w ↦ more (ap listed w.ledger-is ∙ w.hold.ensures.after
          ∙ ap (λ (b : Bool). if b then holding label w.in-Some.subject l else l) (w.hold.ensures.asked ∙ w.in-Some.ensures.proper) ∙ entered_taken v label w.in-Some.subject l (sym w.in-Some.is ∙ x.answer label))
      | in_default w ↦ more (ap listed w.ledger-is ∙ entered_none v label l (sym w.in_default.is ∙ x.answer label))
    ]

pub returns : goal.returns
returns g c =
    let K = g.K.Number.kind in
    let old = listed c.args.ledger.now in
    let l₀ = listed c.new.result in
    let m₀ = c.args.memory.now in
    let n = c.fitting.result.n in
    let all = c.fitting.result.entries.now in
    let k = c.min.result in
    let l = listed c.loop-place.ledger in
    let m = c.loop-place.memory in
    let i = c.loop-place.place in
    let s = c.loop-place.invariant in
    let size = same_size c.args.ledger.now c.new.result c.set_points.result c.set_points.ensures c.new.ensures in
    let shown : size_in l₀ (length m₀) ≡ size_in old (length m₀) = size_same l₀ old (length m₀) (length m₀) size refl in
    let t = length-take-le k all (omega (arith, c.min.ensures)) in
    let done = gone_all K l₀ m₀ (take k all) i l m (let b = c.loop-place-test.false in omega (arith, t)) s in
    let here : held_lines (size_in l₀ (length m₀)) m₀ 0 (take k all) ≡ take c.args.count (held_in old m₀) = ap (λ x. held_lines x m₀ 0 (take k all)) (shown ∙ sym c.fitting.ensures.size) ∙ first_lines n m₀ 0 k all
    ∙ ap (take k) (held_is old (length m₀) n all c.fitting.ensures.size c.fitting.ensures.entries m₀ refl)
    ∙ take_min k c.args.count (held_in old m₀) (c.min.ensures ∙ ap (min c.args.count) (sym (held_count old m₀ ∙ ap length (sym c.fitting.ensures.entries)))) in
    record {
      size = s.size ∙ size;
      held = done ∙ ap₂ (λ x hs. restated K x [] hs) shown here;
      rest = subst (λ x. drop (used x) m ≡ drop (used x) m₀) shown s.rest;
    }
