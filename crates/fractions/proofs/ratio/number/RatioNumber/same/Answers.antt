use Rattle.std.proofs.Common.{rules}
use Rattle.fractions.specs.Unique.{same_dens, same_nums}
use Rattle.fractions.proofs.ratio.number.RatioNumber.same.Goals as goal

pub returns-clause-whenever : goal.returns-clause-whenever
returns-clause-whenever c e =
    let nums = same_nums c.args.self c.args.b e in
    let dens = same_dens c.args.self c.args.b e in
    search rules
