-- Held lines stated again, one place after the other.
use Rattle.std.proofs.Common.{◌≡◌, ℕ, zero, suc, ◌+◌, ◌<◌, ◌≤◌, Bool, true, false, cond, leb, List, [], ◌∷◌, length, get_or, take, drop, Some, None, sym, refl, ap, ◌∙◌, subst, ap₂, arith, length-append}
use native.Mathlib.Decide.{dec_lt}
use Rattle.exact.specs.Kind.{Kind}
use Rattle.ledger.specs.declared.entry.Entry.{Entry}
use Rattle.ledger.specs.Entries.{blank}
use Rattle.ledger.specs.Listed.{Listed, holding}
use Rattle.elimination.specs.Held.{needed, used, fits, size_in, entries_in, line_place, line_at, held_line, held_lines, held_in}
use Rattle.elimination.proofs.Places.{line_next, lines_end, rest_past}
use Rattle.elimination.proofs.Verdicts.{used_all}
use Rattle.elimination.proofs.Remaining.{nothing_held}
use Rattle.elimination.proofs.Walks.{lines_first, lines_end as lines-all}
use Rattle.elimination.specs.Again.{restated}
use Rattle.elimination.specs.Again.{taken_for}
use Rattle.elimination.specs.Stating.{held_after, entered}
use Rattle.elimination.specs.Steps.{Verdict, refused, follows, clash, taken, steps}

-- ---- the ledger after a verdict
pub entered_taken : {V : Type 0} (v : Verdict V) (label q : ℕ) (l : Listed) → Some q ≡ taken_for v → holding label q l ≡ entered v label l
entered_taken (refused f) label q l e = let z : ◌≡◌ {A = ℕ} 0 1 = cc in absurd (omega arith)
entered_taken follows label q l e = let z : ◌≡◌ {A = ℕ} 0 1 = cc in absurd (omega arith)
entered_taken (clash rs) label q l e = let z : ◌≡◌ {A = ℕ} 0 1 = cc in absurd (omega arith)
entered_taken (taken p hs) label q l e = let d : q ≡ p = cc in ap (λ i. holding label i l) d

pub entered_none : {V : Type 0} (v : Verdict V) (label : ℕ) (l : Listed) → None ≡ taken_for v → l ≡ entered v label l
entered_none (refused f) label l e = refl
entered_none follows label l e = refl
entered_none (clash rs) label l e = refl
entered_none (taken p hs) label l e = let z : ◌≡◌ {A = ℕ} 0 1 = cc in absurd (omega arith)

entered_size : {V : Type 0} (v : Verdict V) (label : ℕ) (l : Listed) → (entered v label l).n ≡ l.n
entered_size (refused f) label l = refl
entered_size follows label l = refl
entered_size (clash rs) label l = refl
entered_size (taken q hs) label l = refl

entered_few : {V : Type 0} (v : Verdict V) (label : ℕ) (l : Listed) → length (entered v label l).entries ≤ length l.entries + 1
entered_few (refused f) label l = omega arith
entered_few follows label l = omega arith
entered_few (clash rs) label l = omega arith
entered_few (taken q hs) label l = let e = length-append l.entries (record { label = label; subject = q } ∷ []) in omega arith

-- what a ledger shows goes by its size
pub size_same : (l l' : Listed) (have have' : ℕ) → l.n ≡ l'.n → have ≡ have' → size_in l have ≡ size_in l' have'
size_same l l' have have' e d = ap₂ (λ n k. cond (leb (needed n) k) n 0) e d

pub shown_few : (l : Listed) (have i : ℕ) → length l.entries ≤ i → length (entries_in l have) ≤ i
shown_few l have i h = go (fits l have)
  where
    go : (b : Bool) → length (cond b l.entries []) ≤ i
    go true = h
    go false = omega arith

-- the first lines of the entries
pub first_lines : {V : Type 0} (n : ℕ) (m : List V) (j k : ℕ) (es : List Entry) → held_lines n m j (take k es) ≡ take k (held_lines n m j es)
first_lines n m j zero es = refl
first_lines n m j (suc k) [] = refl
first_lines n m j (suc k) (e ∷ es) = ap (λ hs. held_line n m j e ∷ hs) (first_lines n m (j + 1) k es)

-- ---- the walk, over the lines of the entries es in a memory m₀, from a ledger l₀ that has none
module _ {V : Type 0} (K : Kind V) (l₀ : Listed) (m₀ : List V) (es : List Entry) where
  abbrev n : ℕ
  n = size_in l₀ (length m₀)

  -- it has come to the place i, and the ledger and the memory are now l and m
  pub record Gone (i : ℕ) (l : Listed) (m : List V) : Type 0 where
    pub size : l.n ≡ l₀.n
    pub few : length l.entries ≤ i
    pub long : length m ≡ length m₀
    pub lines : drop (line_place n i) m ≡ drop (line_place n i) m₀
    pub rest : drop (used n) m ≡ drop (used n) m₀
    pub so_far : restated K n (held_in l m) (held_lines n m₀ i (drop i es)) ≡ restated K n [] (held_lines n m₀ 0 es)

  pub gone_start : l₀.entries ≡ [] → Gone 0 l₀ m₀
  gone_start d =
      record { size = refl; few = let z = ap length d in omega arith; long = refl; lines = refl; rest = refl; so_far = ap (λ hs. restated K n hs (held_lines n m₀ 0 es)) (nothing_held l₀ m₀ d) }

  pub gone_size : (i : ℕ) (l : Listed) (m : List V) → Gone i l m → size_in l (length m) ≡ size_in l₀ (length m₀)
  gone_size i l m s = size_same l l₀ (length m) (length m₀) s.size s.long

  -- the line of the place i is stated again
  module _ (i : ℕ) (h : i < length es) (below : i < size_in l₀ (length m₀)) (l : Listed) (m : List V) (s : Gone i l m) where
    abbrev pub label : ℕ
    label = (get_or es i blank).label

    abbrev pub verdict : Verdict V
    verdict = steps K (size_in l (length m)) (held_in l m) label (line_at (size_in l (length m)) m i)

    -- as it stood at first
    verdict_is : verdict ≡ steps K n (held_in l m) label (line_at n m₀ i)
    verdict_is = ap (λ k. steps K k (held_in l m) label (line_at k m i)) (gone_size i l m s) ∙ ap (λ r. steps K n (held_in l m) label (take (n + 1) r)) s.lines

    past : line_place n (i + 1) ≤ needed n
    past = go (dec_lt (i + 1) n)
      where
        go : Dec (i + 1 < n) → line_place n (i + 1) ≤ needed n
        go (yes b) = let a = line_next n (i + 1) n b in let e = lines_end n in omega (arith, a, e)
        go (no b) = let d : i + 1 ≡ n = omega arith in subst (λ k. line_place n k ≤ needed n) (sym d) (let e = lines_end n in omega (arith, e))

    pub gone_more : (l' : Listed) (m' : List V) → length m' ≡ length m → l' ≡ entered verdict label l → held_in (entered verdict label l) m' ≡ held_after verdict (held_in l m) → drop (line_place (size_in l (length m)) (i + 1)) m' ≡ drop (line_place (size_in l (length m)) (i + 1)) m → Gone (i + 1) l' m'
    unfolding held_line
    gone_more l' m' same is new later =
        let near : drop (line_place n (i + 1)) m' ≡ drop (line_place n (i + 1)) m = subst (λ k. drop (line_place k (i + 1)) m' ≡ drop (line_place k (i + 1)) m) (gone_size i l m s) later in
        let up = line_next n i (i + 1) (omega arith) in
        let all = used_all n (omega arith) in
        let stop = past in
        record {
          size = ap (λ t. t.n) is ∙ entered_size verdict label l ∙ s.size;
          few = let e = entered_few verdict label l in let f = s.few in subst (λ t. length t.entries ≤ i + 1) (sym is) (omega arith);
          long = same ∙ s.long;
          lines = near ∙ rest_past (line_place n i) (line_place n (i + 1)) (omega (arith, up)) m m₀ s.lines;
          rest = subst (λ k. drop k m' ≡ drop k m) (sym all) (rest_past (line_place n (i + 1)) (needed n) stop m' m near) ∙ s.rest;
          so_far = ap (λ hs. restated K n hs (held_lines n m₀ (i + 1) (drop (i + 1) es))) (ap (λ t. held_in t m') is ∙ new ∙ ap (λ v. held_after v (held_in l m)) verdict_is)
              ∙ sym (ap (restated K n (held_in l m)) (lines_first n m₀ es i h)) ∙ s.so_far;
        }

  pub gone_all : (i : ℕ) (l : Listed) (m : List V) → length es ≤ i → Gone i l m → held_in l m ≡ restated K n [] (held_lines n m₀ 0 es)
  gone_all i l m b s = sym (ap (restated K n (held_in l m)) (lines-all n m₀ es i b)) ∙ s.so_far
