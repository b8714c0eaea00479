use Rattle.std.proofs.Common.{sym, ◌∙◌}
use Rattle.cutting.proofs.Cut.{first, only}
use Rattle.cutting.proofs.take.first_line.Goals as goal

pub returns-in-Some-clause-parted : goal.returns-in-Some-clause-parted
returns-in-Some-clause-parted c h = first c.args.text.now c.in-Some.end (sym c.newline.ensures ∙ c.in-Some.is)

pub returns-in-None-clause-parted : goal.returns-in-None-clause-parted
returns-in-None-clause-parted c h = only c.args.text.now _ _ (sym c.newline.ensures ∙ c.in-None.is) h c.split_at.ensures.front c.split_at.ensures.back
