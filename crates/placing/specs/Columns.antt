-- Where the numbers of a line begin in the text.
use Rattle.std.specs.Prelude.{ℕ, ◌+◌, ◌-◌, cond, List, [], ◌∷◌, ℤ, pos, Some, None, Option, ◌==◌, slice_index_or}
use Rattle.elimination.specs.declared.fault.SheetFault.{SheetFault}
use Rattle.elimination.specs.declared.fault.SheetFault.TheVariants.{Size, SetPoint, Length, Room, Label, Limit, Clash, Numbers}
use Rattle.reading.specs.declared.term.Term.{Term}
use Rattle.reading.specs.Form.{Meaning}
use Rattle.placing.specs.declared.fault.TextFault.{TextFault}
use Rattle.placing.specs.declared.fault.TextFault.TheVariants.{Sheet}
use Rattle.placing.specs.Numbers.{numbers}

-- the column of the first digit of q's coefficient, if it has one
abbrev pub start : List Term → ℕ → Option ℕ
start [] q = None
start (t ∷ ts) q = cond (t.number == q) t.start (start ts q)

-- the same of the number at a position from 1: after the n coefficients comes the constant
abbrev pub column : Meaning → ℕ → ℕ → Option ℕ
column m n position = cond (position == n + 1) (Some m.start) (start m.terms position)

-- the number at a position from 1
abbrev pub number_at : Meaning → ℕ → ℕ → ℤ
number_at m n position = slice_index_or (numbers m n) (position - 1) (pos 0)

abbrev pub fault_column : SheetFault → Meaning → ℕ → Option ℕ
fault_column Size m n = None
fault_column SetPoint m n = None
fault_column Length m n = None
fault_column Room m n = None
fault_column Label m n = None
fault_column (Limit position) m n = column m n position
fault_column (Clash count) m n = None
fault_column (Numbers f) m n = None

abbrev pub fault_placed : SheetFault → Meaning → ℕ → TextFault
fault_placed f m n = Sheet f (fault_column f m n)
