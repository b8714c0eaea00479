use Rattle.printing.specs.Rows.{settled_row}
use Rattle.recipe.proofs.adding.add_settled.Given as goal

abbrev pub ghost-add_row : goal.ghost-add_row
ghost-add_row a = settled_row a.write.0.now a.write.1.now
