use Rattle.printing.specs.Rows.{follows_row}
use Rattle.recipe.proofs.adding.add_follows.Given as goal

abbrev pub ghost-add_row : goal.ghost-add_row
ghost-add_row a = follows_row a.write.0.now
