-- Fractions of two whole numbers. The lower number of one that is admitted is not 0.
use Rattle.std.specs.Prelude.{◌≡◌, ℤ, pos, ◌+ℤ◌, ◌*ℤ◌, neg_ℤ}

pub record Fraction : Type 0 where
  pub top : ℤ
  pub bottom : ℤ

abbrev pub fraction : ℤ → ℤ → Fraction
fraction a b = record { top = a; bottom = b }

abbrev pub whole : ℤ → Fraction
whole a = fraction a (pos 1)

abbrev pub plus : Fraction → Fraction → Fraction
plus a b = fraction (a.top *ℤ b.bottom +ℤ a.bottom *ℤ b.top) (a.bottom *ℤ b.bottom)

abbrev pub times : Fraction → Fraction → Fraction
times a b = fraction (a.top *ℤ b.top) (a.bottom *ℤ b.bottom)

abbrev pub opposite : Fraction → Fraction
opposite a = fraction (neg_ℤ a.top) a.bottom

abbrev pub turned : Fraction → Fraction
turned a = fraction a.bottom a.top

-- a - b c
abbrev pub less_times : Fraction → Fraction → Fraction → Fraction
less_times a b c = plus a (opposite (times b c))

-- a / b
abbrev pub ratio : Fraction → Fraction → Fraction
ratio a b = times a (turned b)

-- equal as ordinary fractions
abbrev pub Equal : Fraction → Fraction → Type 0
Equal a b = a.top *ℤ b.bottom ≡ a.bottom *ℤ b.top
