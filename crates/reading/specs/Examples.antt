-- Lines of recipes, and what is no line.
use Rattle.std.specs.Prelude.{false, None, Some, [], ◌∷◌, codes}
use Rattle.reading.specs.Form.{IsLine, Meaning, term_of}
use Rattle.reading.specs.Reading.{Reads}
use Rattle.reading.specs.Steps.{stops}

abbrev pub nine : Meaning
nine = record { terms = term_of false 2 (Some 1) 2 1 ∷ term_of false 1 None 7 2 ∷ term_of false 1 None 12 3 ∷ []; negative = false; constant = 9; start = 17 }

pub record Examples : Type 0 where
  pub line : IsLine (codes "2q1 + q2 + q3 = 9") nine
  pub space_after_q : Reads (codes "q 1=0") (stops 2)
  pub breaks_off : Reads (codes "q1 +") (stops 5)
  pub eight_digits : Reads (codes "12345678q1=0") (stops 8)
