-- The number of document 01 that stands for a record written or not, for want of room, and what it tells.
use Rattle.std.specs.Prelude.{Option, Some, None, ℕ}
use Rattle.format.specs.Answers.{Outcome, refuses, gives}
use Rattle.bits.specs.declared.BitPos.{BitPos}

abbrev pub put_outcome : Option BitPos → Outcome ℕ
put_outcome (Some p) = gives p.0
put_outcome None = refuses 5 0
