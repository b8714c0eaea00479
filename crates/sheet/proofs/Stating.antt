-- What the answer of a line tells of its verdict.
use Rattle.std.proofs.Common.{◌≡◌, ℕ, ◌+◌, List, length, None, Some, Ok, Err, sym, refl, ap, ◌∙◌, ap₂}
use Rattle.ledger.specs.Listed.{Listed, holding}
use Rattle.elimination.specs.declared.fault.SheetFault.{SheetFault}
use Rattle.elimination.specs.declared.fault.SheetFault.TheVariants.{Clash}
use Rattle.elimination.specs.Held.{size_in, entries_in, held_in}
use Rattle.elimination.specs.Stating.{course, held_after, entered}
use Rattle.elimination.specs.Steps.{Verdict, refused, follows, clash, taken}
use Rattle.elimination.proofs.Remaining.{held_count as shown_count}
use Rattle.sheet.specs.declared.answer.Stated.TheVariants as answer
use Rattle.sheet.proofs.Cases.{ok_no_err, none_no_some}
use Rattle.sheet.specs.Contents.{Contents, stated, after}

module _ {V : Type 0} (S : Contents V) (v : Verdict V) (label : ℕ) (l : Listed) where
  pub refused_is : (f : SheetFault) → course v ≡ Err f → (Err f ≡ stated S v) × (l ≡ entered v label l)
  refused_is f e = go v e
    where
      go : (v : Verdict V) → course v ≡ Err f → (Err f ≡ stated S v) × (l ≡ entered v label l)
      go (refused g) e = (let d : g ≡ f = cc in ap Err (sym d), refl)
      go follows e = ok_no_err e
      go (clash rs) e = (let d : Clash (length rs) ≡ f = cc in ap Err (sym d), refl)
      go (taken q hs) e = ok_no_err e

  pub follows_is : course v ≡ Ok None → (Ok answer.Follows ≡ stated S v) × (l ≡ entered v label l)
  follows_is e = go v e
    where
      go : (v : Verdict V) → course v ≡ Ok None → (Ok answer.Follows ≡ stated S v) × (l ≡ entered v label l)
      go (refused g) e = ok_no_err (sym e)
      go follows e = (refl, refl)
      go (clash rs) e = ok_no_err (sym e)
      go (taken q hs) e = none_no_some (sym e)

  pub taken_is : (q : ℕ) → course v ≡ Ok (Some q) → (Ok (answer.Held (length S.held + 1)) ≡ stated S v) × (holding label q l ≡ entered v label l)
  taken_is q e = go v e
    where
      go : (v : Verdict V) → course v ≡ Ok (Some q) → (Ok (answer.Held (length S.held + 1)) ≡ stated S v) × (holding label q l ≡ entered v label l)
      go (refused g) e = ok_no_err (sym e)
      go follows e = none_no_some e
      go (clash rs) e = ok_no_err (sym e)
      go (taken p hs) e = (refl, let d : p ≡ q = cc in ap (λ i. holding label i l) (sym d))

-- the size of a ledger stays
size_entered : {V : Type 0} (v : Verdict V) (label : ℕ) (l : Listed) (have : ℕ) → size_in (entered v label l) have ≡ size_in l have
size_entered (refused f) label l have = refl
size_entered follows label l have = refl
size_entered (clash rs) label l have = refl
size_entered (taken q hs) label l have = refl

-- the contents, by the ledger and the memory after it
pub contents_after : {V : Type 0} (v : Verdict V) (label number : ℕ) (l l' : Listed) (m m' : List V) → l' ≡ entered v label l → length m' ≡ length m → held_in (entered v label l) m' ≡ held_after v (held_in l m) →
    ◌≡◌ {A = Contents V} (record { n = size_in l' (length m'); number = number; held = held_in l' m' }) (after (record { n = size_in l (length m); number = number; held = held_in l m }) v)
contents_after v label number l l' m m' e same held =
    ap₂ (λ k hs. record { n = k; number = number; held = hs })
    (ap₂ size_in e same ∙ size_entered v label l (length m)) (ap (λ t. held_in t m') e ∙ held)

-- as many held lines as entries that show
pub held_count : {V : Type 0} (l : Listed) (m : List V) → length (held_in l m) ≡ length (entries_in l (length m))
held_count l m = shown_count l m
