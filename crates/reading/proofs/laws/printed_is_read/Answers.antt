use Rattle.reading.proofs.Printed.{reads_back}
use Rattle.reading.proofs.laws.printed_is_read.Goals as goal

pub returns : goal.returns
returns c = reads_back
