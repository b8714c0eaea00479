-- The records of a clash, as they are written one after the other.
use Rattle.std.proofs.Common.{◌≡◌, ℕ, ◌+◌, ◌<◌, ◌≤◌, Bool, true, false, cond, List, [], ◌∷◌, ◌++◌, length, get_or, take, drop, set, sym, refl, ap, ◌∙◌, append_assoc, append-nil, arith, length-append, take-append-drop, length-take-le, drop-drop, drop-set-lt}
use Rattle.std.proofs.lemmas.List.{take_more_set}
use Rattle.exact.specs.Kind.{Kind}
use Rattle.ledger.specs.declared.entry.Entry.{Entry}
use Rattle.ledger.specs.Entries.{blank}
use Rattle.rows.specs.Row.{at}
use Rattle.elimination.specs.declared.record.Record.{Record}
use Rattle.elimination.specs.Held.{held_line, held_lines}
use Rattle.elimination.specs.Stating.{over_written}
use Rattle.elimination.specs.Steps.{one, named, evidence}
use Rattle.elimination.proofs.Walks.{later, lines_first, lines_end}
use Rattle.elimination.proofs.Frames.{held_length}

module _ {V : Type 0} (K : Kind V) (n : ℕ) (w : List V) (es : List Entry) where
  -- of the places below j all that count are told, in the first records; the others are as they were
  pub record Told (old : List (Record V)) (j count : ℕ) (rs : List (Record V)) : Type 0 where
    pub so_far : (m : List V) → take count rs ++ named K n j (held_lines n m j (drop j es)) w ≡ named K n 0 (held_lines n m 0 es) w
    pub rest : drop count rs ≡ drop count old
    pub few : count ≤ j

  pub told_start : (old : List (Record V)) → Told old 0 0 old
  told_start old = record { so_far = λ m. refl; rest = refl; few = omega arith }

  abbrev pub record_at : ℕ → V → Record V
  record_at j v = record { place = j + 1; label = (get_or es j blank).label; multiplier = v }

  -- the place j, whose multiplier is v
  module _ (j : ℕ) (h : j < length es) (v : V) (is : at K w (n + 1 + j) ≡ v) where
    at_place : (b : Bool) → K.is_zero v ≡ b → (m : List V) → named K n j (held_lines n m j (drop j es)) w ≡ cond b (named K n (j + 1) (later n m es j) w) (record_at j v ∷ named K n (j + 1) (later n m es j) w)
    unfolding held_line
    at_place b e m =
        ap (λ hs. named K n j hs w) (lines_first n m es j h)
        ∙ ap (λ x. cond (K.is_zero x) (named K n (j + 1) (later n m es j) w) (record { place = j + 1; label = (get_or es j blank).label; multiplier = x } ∷ named K n (j + 1) (later n m es j) w)) is
        ∙ ap (λ (t : Bool). cond t (named K n (j + 1) (later n m es j) w) (record_at j v ∷ named K n (j + 1) (later n m es j) w)) e

    pub told_none : (old rs : List (Record V)) (count : ℕ) → K.is_zero v ≡ true → Told old j count rs → Told old (j + 1) count rs
    told_none old rs count e t =
        record { so_far = λ m. ap (λ l. take count rs ++ l) (sym (at_place true e m)) ∙ t.so_far m; rest = t.rest; few = let f = t.few in omega arith }

    pub told_more : (old rs : List (Record V)) (count : ℕ) → count < length rs → K.is_zero v ≡ false → Told old j count rs → Told old (j + 1) (count + 1) (set rs count (record_at j v))
    told_more old rs count c e t =
        let r = record_at j v in
        record {
          so_far = λ m. ap (λ l. l ++ named K n (j + 1) (later n m es j) w) (take_more_set rs count r c) ∙ append_assoc (take count rs) (r ∷ []) (named K n (j + 1) (later n m es j) w)
              ∙ ap (λ l. take count rs ++ l) (sym (at_place false e m)) ∙ t.so_far m;
          rest = drop-set-lt (count + 1) rs count r (omega arith) ∙ sym (drop-drop 1 count rs) ∙ ap (drop 1) t.rest ∙ drop-drop 1 count old;
          few = let f = t.few in omega arith;
        }

  -- the refused line comes last
  module _ (label : ℕ) (old rs : List (Record V)) (j count : ℕ) (end : length es ≤ j) (c : count < length rs) (t : Told old j count rs) where
    own : Record V
    own = record { place = length es + 1; label = label; multiplier = one K }

    all : (m : List V) → evidence K n (held_lines n m 0 es) label w ≡ take count rs ++ own ∷ []
    unfolding own
    all m =
        ap (λ i. named K n 0 (held_lines n m 0 es) w ++ record { place = i + 1; label = label; multiplier = one K } ∷ []) (held_length n m 0 es)
        ∙ ap (λ l. l ++ own ∷ []) (sym (t.so_far m) ∙ ap (λ hs. take count rs ++ named K n j hs w) (lines_end n m es j end) ∙ append-nil (take count rs))

    size : (m : List V) → length (evidence K n (held_lines n m 0 es) label w) ≡ count + 1
    size m = ap length (all m) ∙ length-append (take count rs) (own ∷ []) ∙ ap (λ i. i + 1) (length-take-le count rs (omega arith))

    pub told_count : (m : List V) → count + 1 ≡ length (evidence K n (held_lines n m 0 es) label w)
    told_count m = sym (size m)

    pub told_all : (m : List V) → set rs count (record { place = length es + 1; label = label; multiplier = one K }) ≡ over_written (evidence K n (held_lines n m 0 es) label w) old
    unfolding own
    told_all m =
        sym (take-append-drop (count + 1) (set rs count own))
        ∙ ap (λ l. l ++ drop (count + 1) (set rs count own)) (take_more_set rs count own c ∙ sym (all m))
        ∙ ap (λ l. evidence K n (held_lines n m 0 es) label w ++ l)
        (drop-set-lt (count + 1) rs count own (omega arith) ∙ sym (drop-drop 1 count rs) ∙ ap (drop 1) t.rest ∙ drop-drop 1 count old ∙ ap (λ i. drop i old) (sym (size m)))
