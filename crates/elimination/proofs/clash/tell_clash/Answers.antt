use Rattle.std.proofs.Common.{rules, ◌≡◌, ℕ, suc, ◌⊎◌, ◌+◌, ◌-◌, ◌<◌, ◌≤◌, List, ◌∷◌, length, take, drop, get_or, set, inl, inr, sym, ap, ◌∙◌, subst, ap₂, arith, length-drop}
use Rattle.std.proofs.Math.Seq.{take-length}
use Rattle.std.proofs.lemmas.List.{drop_more}
use Rattle.ledger.specs.declared.entry.Entry.{Entry}
use Rattle.ledger.specs.Entries.{blank}
use Rattle.elimination.specs.Held.{wide}
use Rattle.rows.proofs.Ops.{at_is}
use Rattle.elimination.proofs.Telling.{Told, told_start, told_none, told_more, told_count, told_all}
use Rattle.elimination.proofs.clash.tell_clash.Goals as goal

-- what is left of a list from a place on, by its first item
next : {X : Type 0} (xs : List X) (j : ℕ) (d x : X) (ys : List X) → drop j xs ≡ x ∷ ys → (j < length xs) × (get_or xs j d ≡ x) × (drop (j + 1) xs ≡ ys)
next xs j d x ys e =
    let left = length-drop j xs in
    let some : length (drop j xs) ≡ suc (length ys) = ap length e in
    let before : j < length xs = omega (arith, left, some) in
    let both : get_or xs j d ∷ drop (j + 1) xs ≡ x ∷ ys = sym (drop_more xs j d before) ∙ e in
    (before, cc, cc)

-- no line is left where one of the two sides has ended
all_told : {V P Q : Type 0} (n j : ℕ) (es : List Entry) (w : List V) (a : List Entry) (b : List V) → a ≡ drop j es → b ≡ drop (n + 1 + j) w → length w ≡ wide n → length es ≤ n → P ⊎ Q → (P → length a ≡ 0) → (Q → length b ≡ 0) → length es ≤ j
all_told n j es w a b e d long few (inl x) p q = let z = p x in let l = ap length e ∙ length-drop j es in omega (arith, z, l)
all_told n j es w a b e d long few (inr y) p q = let z = q y in let l = ap length d ∙ length-drop (n + 1 + j) w in omega (arith, z, l, long, few)

pub loop-j-init : goal.loop-j-init
loop-j-init g c =
    let K = g.K.Number.kind in
    let n = c.args.held.n in
    let w = c.args.w.now in
    let es = c.args.held.entries.now in
    let old = c.args.records.now in
    let gives = c.into_iter-j-iterator.ensures.into_iter_gives in
    let sides = ap (λ s. s.iter) gives ∙ c.enumerate-j-items.ensures.source in
    let none : c.into_iter-j-iterator.result.count ≡ 0 = ap (λ s. s.count) gives ∙ c.enumerate-j-items.ensures.count in
    let all : take (length w - (n + 1)) (drop (n + 1) w) ≡ drop (n + 1) w = ap (λ i. take i (drop (n + 1) w)) (sym (length-drop (n + 1) w)) ∙ take-length (drop (n + 1) w) in
    let second : c.zip.result.b.rest.now ≡ take (length w - (n + 1)) (drop (n + 1) w) = search rules in
    record {
      entries = ap (λ s. s.a.rest.now) sides ∙ ap (λ s. s.rest.now) c.zip.ensures.first ∙ c.iter.ensures.rest ∙ sym (ap (λ i. drop i es) none);
      multipliers = ap (λ s. s.b.rest.now) sides ∙ second ∙ all ∙ ap (λ i. drop i w) (omega (arith, none));
      few = omega arith;
      told = subst (λ i. Told K n w es old i 0 old) (sym none) (told_start K n w es old);
    }

pub loop-j-preserved-then-not-is_zero : goal.loop-j-preserved-then-not-is_zero
loop-j-preserved-then-not-is_zero g c =
    let K = g.K.Number.kind in
    let n = c.args.held.n in
    let w = c.args.w.now in
    let es = c.args.held.entries.now in
    let old = c.args.records.now in
    let rs = c.loop-j.records in
    let count = c.loop-j.count in
    let j = c.loop-j.j-iterator.count in
    let v = c.in-Some.multiplier.now in
    let s = c.loop-j.invariant in
    let step = c.in-Some.ensures.steps in
    let a = next es j blank c.in-Some.entry.now _ (sym s.entries ∙ step.0.0) in
    let b = next w (n + 1 + j) v v _ (sym s.multipliers ∙ step.0.1) in
    let is = at_is K w (n + 1 + j) v b.0 (sym b.1) in
    let room : count < length rs = let f = s.few in omega arith in
    let own = ap₂ (λ (i : ℕ) (e : Entry). record { place = i + 1; label = e.label; multiplier = v }) (sym step.1) a.1 in
    let told = told_more K n w es j a.0 v is old rs count room (sym c.if-not-is_zero.ensures) s.told in
    record {
      entries = sym a.2 ∙ ap (λ i. drop i es) (sym step.2);
      multipliers = sym b.2 ∙ ap (λ i. drop i w) (let e = step.2 in omega (arith, e));
      few = let f = s.told.few in let l = a.0 in omega (arith, f, l);
      told = subst (λ i. Told K n w es old i (count + 1) (set rs count (record { place = c.in-Some.j + 1; label = c.in-Some.entry.now.label; multiplier = v }))) (sym step.2) (subst (λ r. Told K n w es old (j + 1) (count + 1) (set rs count r)) own told);
    }

pub loop-j-preserved : goal.loop-j-preserved
loop-j-preserved g c =
    let K = g.K.Number.kind in
    let n = c.args.held.n in
    let w = c.args.w.now in
    let es = c.args.held.entries.now in
    let old = c.args.records.now in
    let rs = c.loop-j.records in
    let count = c.loop-j.count in
    let j = c.loop-j.j-iterator.count in
    let v = c.in-Some.multiplier.now in
    let s = c.loop-j.invariant in
    let step = c.in-Some.ensures.steps in
    let a = next es j blank c.in-Some.entry.now _ (sym s.entries ∙ step.0.0) in
    let b = next w (n + 1 + j) v v _ (sym s.multipliers ∙ step.0.1) in
    let is = at_is K w (n + 1 + j) v b.0 (sym b.1) in
    let told = told_none K n w es j a.0 v is old rs count (sym c.if-not-is_zero.ensures) s.told in
    record {
      entries = sym a.2 ∙ ap (λ i. drop i es) (sym step.2);
      multipliers = sym b.2 ∙ ap (λ i. drop i w) (let e = step.2 in omega (arith, e));
      few = s.few;
      told = subst (λ i. Told K n w es old i count rs) (sym step.2) told;
    }

pub returns : goal.returns
returns g c =
    let K = g.K.Number.kind in
    let a = c.args in
    let w = a.w.now in
    let es = a.held.entries.now in
    let j = c.loop-j.j-iterator.count in
    let s = c.loop-j.invariant in
    let room : c.loop-j.count < length c.loop-j.records = let f = s.few in omega arith in
    let over = all_told a.held.n j es w _ _ s.entries s.multipliers c.requires.width a.held.held c.in-None.ensures.steps.0 (λ x. x.1.0) (λ y. y.1.0) in
    record {
      count = told_count K a.held.n w es a.label a.records.now c.loop-j.records j c.loop-j.count over room s.told;
      records = λ m. ap (λ v. set c.loop-j.records c.loop-j.count (record { place = length es + 1; label = a.label; multiplier = v })) c.value_of.ensures
          ∙ told_all K a.held.n w es a.label a.records.now c.loop-j.records j c.loop-j.count over room s.told m;
    }
