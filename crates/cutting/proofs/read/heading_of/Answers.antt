use Rattle.std.proofs.Common.{arith}
use Rattle.cutting.proofs.Headings.{no_first, no_second, passed}
use Rattle.cutting.proofs.read.heading_of.Goals as goal

pub returns-in_err-digit-in-32 : goal.returns-in_err-digit-in-32
returns-in_err-digit-in-32 c = let e = c.in_err-digit-in-32.ensures in passed c.args.line.now c.from_residual.result _ c.from_residual.ensures.1 e.0 (no_first c.args.line.now e.1)

pub returns-in_err-digit-in-32-2 : goal.returns-in_err-digit-in-32-2
returns-in_err-digit-in-32-2 c = let e = c.in_err-digit-in-32-2.ensures in passed c.args.line.now c.from_residual-in_err-digit-in-32-2.result _ c.from_residual-in_err-digit-in-32-2.ensures.1 e.0 (no_first c.args.line.now e.1)

pub returns-in_err-digit-in-32-2-2 : goal.returns-in_err-digit-in-32-2-2
returns-in_err-digit-in-32-2-2 c =
    let e = c.in_err-digit-in-32-2-2.ensures in
    passed c.args.line.now c.from_residual-in_err-digit-in-32-2-2.result _ c.from_residual-in_err-digit-in-32-2-2.ensures.1 e.0 (no_second c.args.line.now (omega (arith, c.in-32-2.len_at_least)) e.1)
