-- A clash that is answered has its evidence in the records, and no other refusal names any.
use Rattle.std.proofs.Common.{◌≡◌, ℕ, ◌+◌, ◌-◌, Bool, true, false, cond, eqb, ltb, List, length, take, drop, ℤ, Some, None, Ok, Err, Option, Result, sym, refl, ap, ◌∙◌, subst, inl, inr, arith}
use Rattle.std.proofs.lemmas.List.{length-append, length-drop, take_at}
use Rattle.exact.specs.Kind.{Kind}
use Rattle.rows.specs.Row.{at}
use Rattle.elimination.specs.declared.fault.SheetFault.{SheetFault}
use Rattle.elimination.specs.declared.fault.SheetFault.TheVariants as sheet
use Rattle.elimination.specs.declared.fault.StepFault.{StepFault}
use Rattle.elimination.specs.declared.record.Record.{Record}
use Rattle.elimination.specs.Held.{HeldLine}
use Rattle.elimination.specs.Refusals.{refusal, limited, over_limit, label_fits}
use Rattle.elimination.specs.Stating.{stating, unless, records_after}
use Rattle.elimination.specs.Steps.{Verdict, refused, follows, clash, taken, steps, reduced, judged, added, holding, forward, opening, subject}
use Rattle.placing.specs.declared.fault.TextFault.{TextFault}
use Rattle.placing.specs.declared.fault.TextFault.TheVariants.{Room, Form, Heading, OutsideSetPoint, TwiceSetPoint, TooLong, Sheet}
use Rattle.placing.specs.Answers.{Refused}
use Rattle.placing.specs.Columns.{fault_placed}
use Rattle.placing.specs.Numbers.{numbers}
use Rattle.printing.specs.Rows.{clash_row}
use Rattle.reading.specs.Form.{Meaning}
use Rattle.sheet.specs.declared.answer.Stated.{Stated}
use Rattle.sheet.specs.Contents.{Contents, stated}
use Rattle.recipe.specs.Added.{entries_of}
use Rattle.recipe.specs.Evidence.{sheet_count, clash_count, Within, Evident, fault_row, answer_row}
use Rattle.recipe.specs.Run.{in_text, verdict_on, verdict_row, LineDone, Tried}

-- no refusal before the steps, and none by the steps, is a clash
abbrev Plain : Result Unit SheetFault → Type 0
Plain (Ok u) = Unit {0}
Plain (Err f) = sheet_count f ≡ None

abbrev pub Fair : {V : Type 0} → Verdict V → Type 0
Fair (refused f) = sheet_count f ≡ None
Fair follows = Unit {0}
Fair (clash rs) = Unit {0}
Fair (taken q hs) = Unit {0}

either : {X : Type 0} (P : X → Type 0) (b : Bool) (x y : X) → P x → P y → P (cond b x y)
either P true x y p q = p
either P false x y p q = q

plain_limited : (o : Option ℕ) → Plain (limited o)
plain_limited (Some p) = refl
plain_limited None = tt

plain_refusal : (n h : ℕ) (line : List ℤ) (label room : ℕ) → Plain (refusal n h line label room)
unfolding refusal
plain_refusal n h line label room =
    either Plain (eqb (length line) (n + 1)) _ _
    (either Plain (ltb h room) _ _ (either Plain (label_fits label) _ _ (plain_limited (over_limit n 0 line)) refl) refl)
    refl

module _ {V : Type 0} (K : Kind V) where
  fair_added : (label : ℕ) (line : List V) (q : ℕ) (r : Result (List V × List (HeldLine V)) StepFault) → Fair (added K label line q r)
  fair_added label line q (Ok rows) = tt
  fair_added label line q (Err f) = refl

  fair_last : (b : Bool) (rs : List (Record V)) → Fair (cond b follows (clash rs))
  fair_last true rs = tt
  fair_last false rs = tt

  fair_judged : (n : ℕ) (hs : List (HeldLine V)) (label : ℕ) (line w : List V) (o : Option ℕ) → Fair (judged K n hs label line w o)
  fair_judged n hs label line w (Some q) = fair_added label line q (holding K q hs w)
  fair_judged n hs label line w None = fair_last (K.is_zero (at K w n)) _

  fair_reduced : (n : ℕ) (hs : List (HeldLine V)) (label : ℕ) (line : List V) (r : Result (List V) StepFault) → Fair (reduced K n hs label line r)
  fair_reduced n hs label line (Ok w) = fair_judged n hs label line w (subject K n (length hs) w)
  fair_reduced n hs label line (Err f) = refl

  fair_steps : (n : ℕ) (hs : List (HeldLine V)) (label : ℕ) (line : List V) → Fair (steps K n hs label line)
  unfolding steps
  fair_steps n hs label line = fair_reduced n hs label line (forward K 1 hs (opening K n (length hs) line))

fair_unless : {V : Type 0} (r : Result Unit SheetFault) (v : Verdict V) → Plain r → Fair v → Fair (unless r v)
fair_unless (Ok u) v p f = f
fair_unless (Err e) v p f = p

pub fair_stating : {V : Type 0} (K : Kind V) (n : ℕ) (hs : List (HeldLine V)) (line : List ℤ) (label room : ℕ) → Fair (stating K n hs line label room)
fair_stating K n hs line label room = fair_unless _ _ (plain_refusal n (length hs) line label room) (fair_steps K n hs label _)

-- the records of a clash are among those that were lent
within : {V : Type 0} (S : Contents V) (v : Verdict V) (old new : List (Record V)) (f : SheetFault) →
    Fair v → length new ≡ length old → new ≡ records_after v old → stated S v ≡ Err f → Within (length old) (sheet_count f)
within S (refused e) old new f p l r s = let q : e ≡ f = cc s in subst (Within (length old)) (sym p ∙ ap sheet_count q) tt
within S follows old new f p l r s = let z : ◌≡◌ {A = ℕ} 0 1 = cc s in absurd (omega arith)
within S (clash rs) old new f p l r s =
    let q : sheet.Clash (length rs) ≡ f = cc s in
    let m : length rs + (length old - length rs) ≡ length old = sym (length-append rs (drop (length rs) old) ∙ ap (λ k. length rs + k) (length-drop (length rs) old)) ∙ ap length (sym r) ∙ l in
    subst (λ e. Within (length old) (sheet_count e)) q (omega (arith, m))
within S (taken q hs) old new f p l r s = let z : ◌≡◌ {A = ℕ} 0 1 = cc s in absurd (omega arith)

-- a text that is refused as it is read names no record
pub plain_read : (text : List ℕ) (n room : ℕ) (f : TextFault) → Refused text n room f → clash_count f ≡ None
plain_read text n room Room r = refl
plain_read text n room (Form c) r = refl
plain_read text n room Heading r = refl
plain_read text n room (OutsideSetPoint c) r = refl
plain_read text n room (TwiceSetPoint c) r = refl
plain_read text n room TooLong r = refl
plain_read text n room (Sheet f c) r = absurd r

-- ---- a line that is read and stated
module _ {V : Type 0} (K : Kind V) (S : Contents V) (label : ℕ) (text : List ℕ) (old : List (Record V)) (r : Result Stated TextFault) (S' : Contents V) (new : List (Record V)) where
  evident_in : (v : Verdict V) (m : Meaning) → Fair v → length new ≡ length old → new ≡ records_after v old → Evident (length old) (in_text (stated S v) m S.n)
  evident_in (refused f) m p l e = subst (Within (length old)) (sym p) tt
  evident_in follows m p l e = tt
  evident_in (clash rs) m p l e = within S (clash rs) old new (sheet.Clash (length rs)) tt l e refl
  evident_in (taken q hs) m p l e = tt

  -- the evidence of a clash is there
  pub evident : length new ≡ length old → Tried K S label text old r S' new → Evident (length old) r
  evident l (inl t) = subst (Evident (length old)) (sym t.answer) (subst (Within (length old)) (sym (plain_read text S.n 49 t.fault t.why)) tt)
  evident l (inr t) =
      subst (Evident (length old)) (sym t.answer)
      (evident_in (verdict_on K (length old) S label t.meaning) t.meaning (fair_stating K S.n S.held (numbers t.meaning S.n) label (length old)) l t.records)

  row_in : (room : ℕ) (v : Verdict V) (m : Meaning) → Fair v → new ≡ records_after v old → answer_row K label (in_text (stated S v) m S.n) new ≡ verdict_row K room S label m v
  row_in room (refused f) m p e = ap (fault_row K label (fault_placed f m S.n) new) p
  row_in room follows m p e = refl
  row_in room (clash rs) m p e = ap (λ rs'. clash_row label (entries_of K rs')) (ap (take (length rs)) e ∙ take_at rs (drop (length rs) old) (length rs) refl)
  row_in room (taken q hs) m p e = refl

  -- and its row is that of the verdict
  pub line_done : Tried K S label text old r S' new → LineDone K (length old) S label text (answer_row K label r new) S'
  line_done (inl t) =
      inl (record {
        fault = t.fault;
        why = t.why;
        prints = ap (λ a. answer_row K label a new) t.answer ∙ ap (fault_row K label t.fault new) (plain_read text S.n 49 t.fault t.why);
        same = t.same;
      })
  line_done (inr t) =
      inr (record {
        meaning = t.meaning;
        reads = t.reads;
        good = t.good;
        prints = ap (λ a. answer_row K label a new) t.answer
            ∙ row_in (length old) (verdict_on K (length old) S label t.meaning) t.meaning (fair_stating K S.n S.held (numbers t.meaning S.n) label (length old)) t.records;
        leaves = t.leaves;
      })
