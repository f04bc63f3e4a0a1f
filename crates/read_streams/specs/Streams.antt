-- How far a stream has been checked.
use Rattle.std.specs.Prelude.{◌≡◌, List, ℕ, ◌+◌, ◌*◌, ◌≤◌, length}
use Rattle.format.specs.Limits.{longest_list}
use Rattle.format.specs.Answers.{Outcome}
use Rattle.format.specs.Reading.{Check}
use Rattle.bits.specs.Cursor.{Within, left}
use Rattle.bits.specs.declared.Cursor.{Cursor}

-- from start up to c there are so many records with so many values: what the rest comes to, the whole does
pub record Passing (s : List ℕ) (start c : Cursor) (records values : ℕ) : Type 0 where
  pub within : Within c (length s)
  pub stop : c.stop ≡ start.stop
  pub whole : (x : Outcome (ℕ × ℕ)) → Check start.stop.0 x (left c s) records values → Check start.stop.0 x (left start s) 0 0
  pub few : records + start.at.0 ≤ c.at.0
  pub small : values ≤ longest_list * records
