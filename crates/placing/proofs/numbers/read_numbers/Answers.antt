use Rattle.std.proofs.Common.{length, refl, arith}
use Rattle.std.proofs.lemmas.Result.{err_from_is_err_and}
use Rattle.reading.specs.Reading.{meaning_of}
use Rattle.placing.proofs.Answering.{bad_line}
use Rattle.placing.proofs.numbers.read_numbers.Goals as goal

pub returns-in_err-check_terms : goal.returns-in_err-check_terms
returns-in_err-check_terms c =
    let p = err_from_is_err_and c.from_residual-in_err-check_terms.result c.from_residual-in_err-check_terms.ensures.1 in
    rw (p.1, p.2) (bad_line c.args.text.now c.args.n (length c.args.out.now) (meaning_of c.in_ok-line.line) c.terms.result.now _ (omega arith) c.in_ok-line.ensures c.terms.ensures c.in_err-check_terms.ensures, refl)
