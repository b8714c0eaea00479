-- Lines, values and solutions: the words of the subject. Nothing here knows of rows or steps.
use Rattle.std.specs.Prelude.{ℕ, zero, suc, ◌-◌, ◌<◌, Bool, T, List, [], length, ℤ, pos, slice_index_or}
use Rattle.exact.specs.Fraction.{Fraction, whole, plus, times}

-- a1, .., an, c: the line a1 q1 + .. + an qn = c
abbrev pub Line : Type 0
Line = List ℤ

-- the number in a column, as a fraction: the coefficient of q1 stands in column 0, the constant in column n
abbrev pub entry : Line → ℕ → Fraction
entry l u = whole (slice_index_or l u (pos 0))

abbrev pub line : List Line → ℕ → Line
line ls i = slice_index_or ls i []

-- f 0 + .. + f (n - 1)
abbrev pub total : ℕ → (ℕ → Fraction) → Fraction
total zero f = whole (pos 0)
total (suc n) f = plus (total n f) (f n)

-- the values x meet the row r of any fractions: r 0 x 0 + .. + r (n - 1) x (n - 1) is the same number as r n
abbrev pub Satisfies : (alike : Fraction → Fraction → Type 0) → (n : ℕ) → (x r : ℕ → Fraction) → Type 0
Satisfies alike n x r = alike (total n (λ u. times (r u) (x u))) (r n)

module _ (admits : Fraction → Type 0) (alike : Fraction → Fraction → Type 0) (n : ℕ) where
  -- a value for each set point: an admitted fraction, whether or not the kind holds it
  pub record Values : Type 0 where
    pub number : ℕ → Fraction
    pub admitted : (u : ℕ) → admits (number u)

  -- a1 x1 + .. + an xn is the same number as c
  abbrev pub Meets : Line → Values → Type 0
  Meets l x = Satisfies alike n x.number (entry l)

  -- x meets the lines of a part, which is given by a Bool for each place
  abbrev pub MeetsPart : List Line → (ℕ → Bool) → Values → Type 0
  MeetsPart ls part x = (i : ℕ) → i < length ls → T (part i) → Meets (line ls i) x

  abbrev pub Solves : List Line → Values → Type 0
  Solves ls x = (i : ℕ) → i < length ls → Meets (line ls i) x

  -- no values solve ls and meet l
  abbrev pub Contradict : List Line → Line → Type 0
  Contradict ls l = (x : Values) → Solves ls x → Meets l x → ⊥

  abbrev pub PartContradicts : List Line → (ℕ → Bool) → Line → Type 0
  PartContradicts ls part l = (x : Values) → MeetsPart ls part x → Meets l x → ⊥

  -- every solution of ls meets l
  abbrev pub Follows : List Line → Line → Type 0
  Follows ls l = (x : Values) → Solves ls x → Meets l x

  -- every solution of ls has the number y at the set point q (1 .. n)
  abbrev pub Fixed : List Line → (q : ℕ) → Fraction → Type 0
  Fixed ls q y = (x : Values) → Solves ls x → alike (x.number (q - 1)) y

  -- some number is fixed at q
  abbrev pub IsFixed : List Line → (q : ℕ) → Type 0
  IsFixed ls q = (y : Fraction) × admits y × Fixed ls q y
