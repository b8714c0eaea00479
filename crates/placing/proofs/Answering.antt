-- What is known when a text was read.
use Rattle.std.proofs.Common.{◌≡◌, ℕ, ◌<◌, List, subst}
use Rattle.reading.specs.declared.term.Term.{Term}
use Rattle.reading.specs.Form.{Meaning}
use Rattle.reading.specs.Reading.{Reads}
use Rattle.reading.specs.Steps.{means}
use Rattle.placing.specs.declared.fault.TextFault.{TextFault}
use Rattle.placing.specs.declared.fault.TextFault.TheVariants.{Room, Form, Heading, OutsideSetPoint, TwiceSetPoint, TooLong, Sheet}
use Rattle.placing.specs.Answers.{Refused}
use Rattle.placing.specs.Terms.{Bad}

pub bad_line : (text : List ℕ) (n room : ℕ) (m : Meaning) (ts : List Term) (f : TextFault) → n < room → Reads text (means m) → ts ≡ m.terms → Bad ts n f → Refused text n room f
bad_line text n room m ts Room h r e b = absurd b
bad_line text n room m ts (Form c) h r e b = absurd b
bad_line text n room m ts Heading h r e b = absurd b
bad_line text n room m ts (OutsideSetPoint c) h r e b = (h, (m, r, subst (λ l. Bad l n (OutsideSetPoint c)) e b))
bad_line text n room m ts (TwiceSetPoint c) h r e b = (h, (m, r, subst (λ l. Bad l n (TwiceSetPoint c)) e b))
bad_line text n room m ts TooLong h r e b = absurd b
bad_line text n room m ts (Sheet f c) h r e b = absurd b
