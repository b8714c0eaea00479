-- A printed whole number is read back.
use Rattle.std.proofs.Common.{◌≡◌, ℕ, suc, ◌+◌, ◌-◌, ◌*◌, ◌^◌, ◌<◌, ◌≤◌, Bool, true, false, None, List, [], ◌∷◌, ◌++◌, map, length, ℤ, pos, negsuc, nat_abs, codes, decimal, sym, refl, ap, subst, inl, inr, add-zero, arith, rules, ne_eqb, le-leb}
use Rattle.std.specs.Fmt.{signed_decimal}
use Rattle.std.specs.Str.Parse.{AllDigits}
use Rattle.std.proofs.lemmas.Str.Parse.{IsNumeralModel, tells_digits, numerals_by_fold, digit_from_value}
use Rattle.std.proofs.lemmas.Fmt.{digits_decimal, digits_value-decimal, length-decimal-le, decimal_nonempty}
use Rattle.reading.specs.declared.mark.Mark.{Mark}
use Rattle.reading.specs.declared.mark.Mark.TheVariants.{Digit}
use Rattle.reading.specs.declared.term.Term.{Term}
use Rattle.reading.specs.Form.{Form, Meaning, gap, finish, constant, perhaps_minus, term_of, digits, integer, more}
use Rattle.reading.specs.Marks.{mark}
use Rattle.std.proofs.lemmas.List.{append-nil, map-append}
use Rattle.reading.specs.Back.{below_zero, value_start, ReadsBack}

abbrev read_on : ℕ → List ℕ → ℕ
read_on n [] = n
read_on n (c ∷ cs) = read_on (10 * n + (c - 48)) cs

own : IsNumeralModel (AllDigits 10) (read_on 0)
own = numerals_by_fold _ tells_digits read_on (search rules)

mark_digit : (c : ℕ) → 48 ≤ c → c ≤ 57 → mark c ≡ Digit (c - 48)
mark_digit c h k = rw (ne_eqb c 32 (λ e. omega arith), le-leb 48 c h, le-leb c 57 k) refl

spell : (K : ℕ → Form) (ds : List ℕ) (k v col : ℕ) (t : List Mark) → AllDigits 10 ds → k + length ds ≤ 7 → K (read_on v ds) (col + length ds) t → digits K k v col (map mark ds ++ t)
spell K [] k v col [] d h g = rw add-zero at g
spell K [] k v col (x ∷ t) d h g = inl (rw add-zero at g)
spell K (c ∷ cs) k v col t d h g =
    let i = digit_from_value c d.0 in
    inr (c - 48, mark_digit c i.0 i.1, omega arith, spell K cs (k + 1) (10 * v + (c - 48)) (col + 1) t d.1 (omega arith) (subst (λ n. K (read_on (10 * v + (c - 48)) cs) n t) shift g))
  where
    shift : col + length (c ∷ cs) ≡ col + 1 + length cs
    shift = omega arith

all : (K : ℕ → Form) (ds : List ℕ) (col : ℕ) (t : List Mark) → 0 < length ds → AllDigits 10 ds → length ds ≤ 7 → K (read_on 0 ds) (col + length ds) t → integer K col (map mark ds ++ t)
all K [] col t s d h g = absurd (omega arith)
all K (c ∷ cs) col t s d h g =
    let i = digit_from_value c d.0 in
    let e : 10 * 0 + (c - 48) ≡ c - 48 = omega arith in
    (c - 48, mark_digit c i.0 i.1, spell K cs 1 (c - 48) (col + 1) t d.1 (omega arith) (subst (λ n. K (read_on (c - 48) cs) n t) shift (subst (λ v. K (read_on v cs) (col + length (c ∷ cs)) t) e g)))
  where
    shift : col + length (c ∷ cs) ≡ col + 1 + length cs
    shift = omega arith

-- the digits of n, then what goes on with n, are an integer that goes on with its value
pub back : (n : ℕ) → n < 10000000 → (K : ℕ → Form) (col : ℕ) (t : List Mark) → K n (col + length (decimal n)) t → integer K col (map mark (decimal n) ++ t)
back n h K col t g =
    let small : n < 2 ^ 64 = omega arith in
    all K (decimal n) col t (decimal_nonempty n small) (digits_decimal own n small) (length-decimal-le 7 n (omega arith) (omega arith) small) (subst (λ v. K v (col + length (decimal n)) t) (sym (digits_value-decimal own n small)) g)

here : (K : Form) (col : ℕ) (t : List Mark) → K col t → gap K col t
here K col [] g = g
here K col (x ∷ t) g = inl g

-- the digits of n are a right side
whole : (m : Meaning) (done : List Term) (s : Bool) (n col : ℕ) → n < 10000000 → m ≡ record { terms = done; negative = s; constant = n; start = col } → constant m done s col (map mark (decimal n))
whole m done s n col h e =
    let K : ℕ → Form = λ v. gap (finish (m ≡ record { terms = done; negative = s; constant = v; start = col })) in
    subst (λ t. integer K col t) (append-nil (map mark (decimal n))) (back n h K col [] e)

-- the column after a minus
abbrev sign_end : ℤ → ℕ → ℕ
sign_end (pos n) col = col
sign_end (negsuc n) col = col + 1

right : (z : ℤ) (m : Meaning) (done : List Term) (col : ℕ) → nat_abs z < 10000000 → m ≡ record { terms = done; negative = below_zero z; constant = nat_abs z; start = sign_end z col } → perhaps_minus (constant m done) col (map mark (signed_decimal z))
right (pos n) m done col h e = inl (whole m done false n col h e)
right (negsuc n) m done col h e = inr (refl, here (constant m done true) (col + 1) (map mark (decimal (suc n))) (whole m done true (suc n) (col + 1) h e))

starts : (q : ℕ) (z : ℤ) → value_start q z ≡ sign_end z (2 + length (decimal q) + 1 + 1 + 1)
starts q (pos n) = omega arith
starts q (negsuc n) = omega arith

pub reads_back : ReadsBack
reads_back q z h k =
    let done : List Term = term_of false 1 None 1 q ∷ [] in
    let m : Meaning = record { terms = done; negative = below_zero z; constant = nat_abs z; start = value_start q z } in
    let K : ℕ → Form = λ v. gap (more m 0 (term_of false 1 None 1 v ∷ [])) in
    let c : ℕ = 2 + length (decimal q) + 1 + 1 + 1 in
    let e = ap (λ v. record { terms = done; negative = below_zero z; constant = nat_abs z; start = v }) (starts q z) in
    let g = inr (refl, inl (refl, inr (refl, here (perhaps_minus (constant m done)) c (map mark (signed_decimal z)) (right z m done c k e)))) in
    let b = back q h K 2 (map mark (codes " = " ++ signed_decimal z)) g in
    (0, inl (inl (inl (refl, subst (λ t. integer K 2 t) (sym (map-append mark (decimal q) (codes " = " ++ signed_decimal z))) b))))
