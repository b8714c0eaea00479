-- A list that is worked line by line.
use Rattle.std.proofs.Common.{◌≡◌, ℕ, zero, suc, ◌+◌, ◌-◌, ◌/◌, ◌<◌, ◌≤◌, Bool, true, false, cond, leb, List, [], ◌∷◌, ◌++◌, length, take, drop, ℤ, Ok, Err, Result, sym, refl, ap, ◌∙◌, ap₂, subst, add-zero, zero-add, add-one, add_assoc, arith}
use native.Mathlib.Decide.{dec_le}
use Rattle.std.proofs.Math.Nat.{add-div_left, div-eq_of_lt}
use Rattle.std.proofs.Math.Seq.{take-append_seam, drop-append_seam}
use Rattle.std.proofs.lemmas.List.{length-append}
use Rattle.std.proofs.lemmas.Bool.{false≢true, leb-true}
use Rattle.std.proofs.lemmas.Bool.Decides.{nat_tests}
use Rattle.exact.specs.Kind.{Kind}
use Rattle.ledger.specs.Listed.{listed}
use Rattle.elimination.specs.declared.fault.SheetFault.{SheetFault}
use Rattle.elimination.specs.declared.fault.StepFault.{StepFault}
use Rattle.elimination.specs.declared.fault.SheetFault.TheVariants.{Numbers}
use Rattle.elimination.specs.declared.record.Record.{Record}
use Rattle.elimination.specs.Held.{used, size_in}
use Rattle.elimination.specs.Refusals.{label_fits}
use Rattle.elimination.specs.Stating.{records_after}
use Rattle.elimination.specs.Steps.{Verdict}
use Rattle.sheet.specs.declared.answer.Stated.{Stated}
use Rattle.sheet.specs.declared.sheet.Sheet.{Sheet}
use Rattle.sheet.specs.Contents.{Contents, contents, verdict, stated, after}
use Rattle.sheet.specs.Stored.{stored, with_contents}
use Rattle.sheet.specs.Listing.{Checked, lines_of, labels_fit, list_refusal, unless_stopped, checked_from, checking}

-- ---- labels
-- the first of some labels is too low
pub labels_low : (m label : ℕ) → (m ≡ 0 → ⊥) → label < 1 → false ≡ labels_fit m label
labels_low zero label some h = absurd (some refl)
labels_low (suc m) label some h = go (labels_fit m (label + 1))
  where
    go : (b : Bool) → false ≡ cond (label_fits label) b false
    go b = grind (arith, nat_tests)

-- otherwise the last decides
pub labels_high : (m label : ℕ) → (m ≡ 0 → ⊥) → 1 ≤ label → leb (label + m - 1) 1000000 ≡ labels_fit m label
labels_high zero label some h = absurd (some refl)
labels_high (suc zero) label some h = grind (arith, nat_tests)
labels_high (suc (suc m)) label some h = go (labels_fit (suc m) (label + 1)) (labels_high (suc m) (label + 1) (λ e. omega arith) (omega arith))
  where
    go : (b : Bool) → leb (label + 1 + suc m - 1) 1000000 ≡ b → leb (label + suc (suc m) - 1) 1000000 ≡ cond (label_fits label) b false
    go b e = grind (arith, nat_tests)

-- none is above the last
labels_within : (m label : ℕ) → labels_fit m label ≡ true → (i : ℕ) → i < m → label + i ≤ 1000000
labels_within m label e i h = go (dec_le 1 label)
  where
    some : m ≡ 0 → ⊥
    some z = omega arith

    go : Dec (1 ≤ label) → label + i ≤ 1000000
    go (yes p) = let l = leb-true (label + m - 1) 1000000 (labels_high m label some p ∙ e) in omega (arith, l)
    go (no p) = absurd (false≢true (labels_low m label some (omega arith) ∙ e))

-- ---- a list as a whole
pub size_shown : {V : Type 0} (s : Sheet V) → size_in (listed s.ledger) (length s.memory.now) ≡ (contents s).n
unfolding contents
size_shown s = refl

module _ (n size first room : ℕ) where
  pub low_labels : list_refusal n size first room ≡ Ok tt → (i : ℕ) → i < size / (n + 1) → first + i ≤ 1000000
  low_labels e i h = let fit : labels_fit (size / (n + 1)) first ≡ true = grind (arith, nat_tests) in labels_within (size / (n + 1)) first fit i h

  -- no number of a kind has come into it
  pub no_numbers : (f : StepFault) → Err (Numbers f) ≡ list_refusal n size first room → ⊥
  no_numbers f e = grind (arith, nat_tests)

module _ {V : Type 0} (K : Kind V) (S : Contents V) (list : List ℤ) (first : ℕ) (rs : List (Record V)) (n : ℕ) (size : n ≡ S.n) where
  abbrev lines_from : ℕ → Checked V
  lines_from k = checked_from K 1 first (lines_of (k + 1) (length list / (k + 1)) list) S rs

  refused_or_not : (r : Result Unit SheetFault) → r ≡ list_refusal n (length list) first (length rs) → checking K S list first rs ≡ unless_stopped r 0 S rs (lines_from n)
  unfolding checking
  refused_or_not r e = ap (λ k. unless_stopped (list_refusal k (length list) first (length rs)) 0 S rs (lines_from k)) (sym size) ∙ ap (λ o. unless_stopped o 0 S rs (lines_from n)) (sym e)

  pub refused_whole : (f : SheetFault) → Err f ≡ list_refusal n (length list) first (length rs) → checking K S list first rs ≡ record { answer = Err (record { index = 0; fault = f }); contents = S; records = rs }
  refused_whole f e = refused_or_not (Err f) e

  pub passed_whole : (u : Unit) → Ok u ≡ list_refusal n (length list) first (length rs) → checking K S list first rs ≡ lines_from n
  passed_whole u e = refused_or_not (Ok u) e

-- ---- the lines
-- the open trials and the waits are as they were
pub self_apart : {V : Type 0} (s : Sheet V) → stored s ≡ with_contents (stored s) (contents s)
unfolding stored
self_apart s = refl

after_size : {V : Type 0} (S : Contents V) (v : Verdict V) → (after S v).n ≡ S.n
after_size S v = refl

-- one line comes off the front
line_first : (w : ℕ) (x rest : List ℤ) → 0 < w → length x ≡ w
    → (length (x ++ rest) / w ≡ suc (length rest / w)) × (lines_of w (length (x ++ rest) / w) (x ++ rest) ≡ x ∷ lines_of w (length rest / w) rest)
line_first w x rest some long =
    let more : length (x ++ rest) / w ≡ suc (length rest / w) =
    ap (λ k. k / w) (length-append x rest ∙ ap (λ k. k + length rest) long) ∙ add-div_left (length rest) some ∙ add-one (length rest / w) in (
      more,
      ap (λ m. lines_of w m (x ++ rest)) more
          ∙ ap₂ (λ l ls. l ∷ lines_of w (length rest / w) ls)
          (ap (λ k. take k (x ++ rest)) (sym long) ∙ take-append_seam x rest)
          (ap (λ k. drop k (x ++ rest)) (sym long) ∙ drop-append_seam x rest),
    )

no_lines : (w : ℕ) (rest : List ℤ) → length rest < w → lines_of w (length rest / w) rest ≡ []
no_lines w rest h = ap (λ m. lines_of w m rest) (div-eq_of_lt h)

module _ {V : Type 0} (K : Kind V) (list : List ℤ) (first w : ℕ) where
  -- what the lines of the rest, from i (from 0) on, come to
  abbrev to_come : (i : ℕ) → List ℤ → Contents V → List (Record V) → Checked V
  to_come i rest S rs = checked_from K (i + 1) (first + i) (lines_of w (length rest / w) rest) S rs

  module _ (s₀ : Sheet V) (rs₀ : List (Record V)) where
    abbrev pub whole_list : Checked V
    whole_list = checked_from K 1 first (lines_of w (length list / w) list) (contents s₀) rs₀

    -- what is to come is what the whole list comes to; the size, the memory past the sheet, and the reference to it are as they were
    pub record Going (i : ℕ) (rest : List ℤ) (s : Sheet V) (rs : List (Record V)) : Type 0 where
      pub whole : to_come i rest (contents s) rs ≡ whole_list
      pub count : i + length rest / w ≡ length list / w
      pub size : (contents s).n ≡ (contents s₀).n
      pub past : drop (used (contents s₀).n) s.memory.now ≡ drop (used (contents s₀).n) s₀.memory.now
      pub lender : s.memory.ghost_name ≡ s₀.memory.ghost_name
      pub apart : stored s ≡ with_contents (stored s₀) (contents s)

    pub begins : Going 0 list s₀ rs₀
    begins =
        record {
          whole = ap (λ k. checked_from K 1 k (lines_of w (length list / w) list) (contents s₀) rs₀) (add-zero first);
          count = zero-add (length list / w);
          size = refl;
          past = refl;
          lender = refl;
          apart = self_apart s₀;
        }

    pub as_at : {i j : ℕ} {xs ys : List ℤ} {s : Sheet V} {rs : List (Record V)} → j ≡ i → ys ≡ xs → Going i xs s rs → Going j ys s rs
    as_at {i = i} {ys = ys} {s = s} {rs = rs} a b t = subst (λ k. Going k ys s rs) (sym a) (subst (λ l. Going i l s rs) (sym b) t)

    pub ends : (i : ℕ) (rest : List ℤ) (s : Sheet V) (rs : List (Record V)) → length rest < w → Going i rest s rs → whole_list ≡ record { answer = Ok (length list / w + 1); contents = contents s; records = rs }
    ends i rest s rs h t =
        let none = div-eq_of_lt h in
        let all : i ≡ length list / w = let e = t.count in omega (arith, e, none) in
        sym t.whole ∙ ap (λ ls. checked_from K (i + 1) (first + i) ls (contents s) rs) (no_lines w rest h) ∙ ap (λ m. record { answer = Ok (m + 1); contents = contents s; records = rs }) all

    -- the line x, at i
    module _ (i : ℕ) (x rest : List ℤ) (s : Sheet V) (rs : List (Record V)) (some : 0 < w) (long : length x ≡ w) (t : Going i (x ++ rest) s rs) where
      pub inside : i < length list / w
      inside = let e = t.count in let f = (line_first w x rest some long).0 in omega (arith, e, f)

      abbrev judged : Verdict V
      judged = verdict K (contents s) x (first + i) (length rs)

      abbrev one_on : Checked V
      one_on = checked_from K (i + 1 + 1) (first + i + 1) (lines_of w (length rest / w) rest) (after (contents s) judged) (records_after judged rs)

      stated_here : (r : Result Stated SheetFault) → r ≡ stated (contents s) judged → unless_stopped r (i + 1) (after (contents s) judged) (records_after judged rs) one_on ≡ whole_list
      stated_here r e =
          ap (λ o. unless_stopped o (i + 1) (after (contents s) judged) (records_after judged rs) one_on) e
          ∙ sym (ap (λ ls. checked_from K (i + 1) (first + i) ls (contents s) rs) (line_first w x rest some long).1) ∙ t.whole

      module _ (s' : Sheet V) (rs' : List (Record V)) (now-held : contents s' ≡ after (contents s) judged) (written : rs' ≡ records_after judged rs)
          (kept : drop (used (contents s).n) s'.memory.now ≡ drop (used (contents s).n) s.memory.now) where
        pub stops : (f : SheetFault) → Err f ≡ stated (contents s) judged → whole_list ≡ record { answer = Err (record { index = i + 1; fault = f }); contents = contents s'; records = rs' }
        stops f e = sym (stated_here (Err f) e) ∙ ap₂ (λ S xs. record { answer = Err (record { index = i + 1; fault = f }); contents = S; records = xs }) (sym now-held) (sym written)

        -- what a line leaves past the sheet is what was there at first
        pub past_it : drop (used (contents s₀).n) s'.memory.now ≡ drop (used (contents s₀).n) s₀.memory.now
        past_it = ap (λ k. drop (used k) s'.memory.now) (sym t.size) ∙ kept ∙ ap (λ k. drop (used k) s.memory.now) t.size ∙ t.past

        pub goes_on : (o : Stated) → Ok o ≡ stated (contents s) judged → s'.memory.ghost_name ≡ s.memory.ghost_name → stored s' ≡ with_contents (stored s) (contents s') → Going (i + 1) rest s' rs'
        goes_on o e same near =
            record {
              whole = ap₂ (λ S xs. to_come (i + 1) rest S xs) now-held written
                  ∙ ap (λ k. checked_from K (i + 1 + 1) k (lines_of w (length rest / w) rest) (after (contents s) judged) (records_after judged rs)) (sym (add_assoc first i 1))
                  ∙ stated_here (Ok o) e;
              count = let c = t.count in let f = (line_first w x rest some long).0 in omega (arith, c, f);
              size = ap (λ S. S.n) now-held ∙ after_size (contents s) judged ∙ t.size;
              past = past_it;
              lender = same ∙ t.lender;
              apart = near ∙ ap (λ X. with_contents X (contents s')) t.apart;
            }
