-- What reading the numbers of a text gives.
use Rattle.std.specs.Prelude.{◌≡◌, ℕ, ◌+◌, ◌<◌, ◌≤◌, List, ◌++◌, length, drop, ℤ, Ok, Err, Result}
use Rattle.reading.specs.declared.line.Line.{Line}
use Rattle.reading.specs.Form.{Meaning}
use Rattle.reading.specs.Reading.{Reads, meaning_of}
use Rattle.reading.specs.Steps.{means, stops}
use Rattle.placing.specs.declared.fault.TextFault.{TextFault}
use Rattle.placing.specs.declared.fault.TextFault.TheVariants.{Room, Form, Heading, OutsideSetPoint, TwiceSetPoint, TooLong, Sheet}
use Rattle.placing.specs.Numbers.{numbers}
use Rattle.placing.specs.Terms.{AllGood, Bad}

-- the text is a line with a bad term, for which it is refused
abbrev pub BadLine : List ℕ → ℕ → TextFault → Type 0
BadLine text n f = (m : Meaning) × Reads text (means m) × Bad m.terms n f

-- want of room comes first, then the form, then the terms
abbrev pub Refused : List ℕ → ℕ → ℕ → TextFault → Type 0
Refused text n room Room = room ≤ n
Refused text n room (Form c) = (n < room) × Reads text (stops c)
Refused text n room Heading = ⊥
Refused text n room (OutsideSetPoint c) = (n < room) × BadLine text n (OutsideSetPoint c)
Refused text n room (TwiceSetPoint c) = (n < room) × BadLine text n (TwiceSetPoint c)
Refused text n room TooLong = ⊥
Refused text n room (Sheet f c) = ⊥

-- the numbers of the line stand at the start of d', which is else as d was; a refusal leaves d
abbrev pub Answered : List ℕ → ℕ → List ℤ → List ℤ → Result Line TextFault → Type 0
Answered text n d d' (Ok l) = (n < length d) × Reads text (means (meaning_of l)) × AllGood (meaning_of l).terms n × (d' ≡ numbers (meaning_of l) n ++ drop (n + 1) d)
Answered text n d d' (Err f) = Refused text n (length d) f × (d' ≡ d)
