use Rattle.printing.specs.Rows.{held_row}
use Rattle.recipe.proofs.adding.add_held.Given as goal

abbrev pub ghost-add_row : goal.ghost-add_row
ghost-add_row a = held_row a.write.0.now a.write.1.now
