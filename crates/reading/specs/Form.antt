-- The form of a recipe line: which texts are a line, and what numbers they mean.
use Rattle.std.specs.Prelude.{◌≡◌, ℕ, zero, suc, ◌+◌, ◌*◌, ◌<◌, Bool, true, false, ◌⊎◌, Option, None, Some, List, [], ◌∷◌, ◌++◌, map}
use Rattle.reading.specs.declared.mark.Mark.{Mark}
use Rattle.reading.specs.declared.mark.Mark.TheVariants.{Space, Digit, SetPoint, Plus, Minus, Equals}
use Rattle.reading.specs.declared.term.Term.{Term}
use Rattle.reading.specs.Marks.{mark}

-- what a line means: its terms from left to right, and its constant with the column of its first digit
pub record Meaning : Type 0 where
  pub terms : List Term
  pub negative : Bool
  pub constant : ℕ
  pub start : ℕ

-- a form: which marks, from a column on, are of it
abbrev pub Form : Type 1
Form = ℕ → List Mark → Type 0

-- one mark x, then K
abbrev pub one : Mark → Form → Form
one x K col [] = ⊥
one x K col (y ∷ t) = (y ≡ x) × K (col + 1) t

-- any number of spaces, then K
abbrev pub gap : Form → Form
gap K col [] = K col []
gap K col (y ∷ t) = K col (y ∷ t) ⊎ ((y ≡ Space) × gap K (col + 1) t)

-- more digits after k digits of value n, seven in all at most; then K of the value
abbrev pub digits : (ℕ → Form) → ℕ → ℕ → Form
digits K k n col [] = K n col []
digits K k n col (y ∷ t) = K n col (y ∷ t) ⊎ ((d : ℕ) × (y ≡ Digit d) × (k < 7) × digits K (k + 1) (10 * n + d) (col + 1) t)

-- an integer of one to seven digits, then K of its value
abbrev pub integer : (ℕ → Form) → Form
integer K col [] = ⊥
integer K col (y ∷ t) = (d : ℕ) × (y ≡ Digit d) × digits K 1 d (col + 1) t

-- nothing more, and P
abbrev pub finish : Type 0 → Form
finish P col [] = P
finish P col (y ∷ t) = ⊥

-- perhaps a minus and spaces, then K of whether it stood there
abbrev pub perhaps_minus : (Bool → Form) → Form
perhaps_minus K col t = K false col t ⊎ one Minus (gap (K true)) col t

abbrev pub term_of : Bool → ℕ → Option ℕ → ℕ → ℕ → Term
term_of negative coefficient start place number =
    record { negative = negative; coefficient = coefficient; start = start; place = place; number = number }

-- q and an integer end a term; K takes the terms up to here
abbrev pub set_point : (List Term → Form) → Bool → ℕ → Option ℕ → List Term → Form
set_point K negative v start done col t = one SetPoint (integer (λ k. gap (K (done ++ term_of negative v start col k ∷ [])))) col t

-- a term is a set point (its coefficient is then 1), or an integer, spaces and a set point
abbrev pub term : (List Term → Form) → Bool → List Term → Form
term K negative done col t =
    set_point K negative 1 None done col t ⊎ integer (λ v. gap (set_point K negative v (Some col) done)) col t

-- the right side's integer
abbrev pub constant : Meaning → List Term → Bool → Form
constant m done negative col t =
    integer (λ v. gap (finish (m ≡ record { terms = done; negative = negative; constant = v; start = col }))) col t

-- n more terms, each after + or minus, then = and the right side
abbrev pub more : Meaning → ℕ → List Term → Form
more m zero done col t = one Equals (gap (perhaps_minus (constant m done))) col t
more m (suc n) done col t =
    one Plus (gap (term (more m n) false done)) col t ⊎ one Minus (gap (term (more m n) true done)) col t

-- the text is a line, and m is what it means
abbrev pub IsLine : List ℕ → Meaning → Type 0
IsLine text m = (n : ℕ) × gap (perhaps_minus (λ negative. term (more m n) negative [])) 1 (map mark text)
