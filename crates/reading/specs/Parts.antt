-- What a clause sees of an integer under way.
use Rattle.std.specs.Prelude.{ℕ}

-- count of its seven places for digits are taken: a space takes those that are left
pub record FigureParts : Type 0 where
  pub value : ℕ
  pub count : ℕ
  pub start : ℕ
