-- An entry's contract seen through the numbers that a C program gets.
use Rattle.std.specs.Prelude.{◌≡◌}
use Rattle.format.specs.Answers.{Outcome}

-- what comes back is flat of an outcome that is Right
pub record Tells {A R : Type 0} (flat : Outcome A → R) (Right : Outcome A → Type 0) (r : R) : Type 0 where
  pub outcome : Outcome A
  pub right : Right outcome
  pub flattened : r ≡ flat outcome
