-- What a byte is to a line.
use Rattle.std.specs.Prelude.{ℕ, ◌-◌, cond, ◌==◌, nat_le}
use Rattle.reading.specs.declared.mark.Mark.{Mark}
use Rattle.reading.specs.declared.mark.Mark.TheVariants.{Space, Digit, SetPoint, Plus, Minus, Equals, Other}

abbrev pub mark : ℕ → Mark
mark b =
    cond (b == 32) Space
    (cond (nat_le 48 b) (cond (nat_le b 57) (Digit (b - 48)) (cond (b == 113) SetPoint (cond (b == 61) Equals Other)))
    (cond (b == 43) Plus (cond (b == 45) Minus Other)))
