use Rattle.std.proofs.Common.{arith}
use Rattle.std.proofs.lemmas.Result.{err_from_is_err_and}
use Rattle.placing.proofs.Opening.{unopened}
use Rattle.placing.proofs.input.open_input.Goals as goal

pub returns-in_err-read_heading : goal.returns-in_err-read_heading
returns-in_err-read_heading c =
    let f = c.from_residual-in_err-read_heading in
    let p = err_from_is_err_and f.result f.ensures.1 in
    let t = rw c.in_ok-line.ensures.ok_part at c.take_line.ensures in
    rw (p.1, p.2) (unopened c.args.input.now c.take_line.new.self c.in_ok-line.line.now (omega arith) t.0 t.1 _ c.in_err-read_heading.ensures)
