use Rattle.cutting.proofs.Rejoined.{whole, unbroken}
use Rattle.cutting.proofs.laws.lines_stand.Goals as goal

pub returns : goal.returns
returns c = record { whole = whole; unbroken = unbroken }
