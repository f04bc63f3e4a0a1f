-- The number of document 01 that a writer's answer stands for, and what it tells.
use Rattle.std.specs.Prelude.{Result, Ok, Err, ℕ}
use Rattle.format.specs.Answers.{Outcome, refuses, gives}
use Rattle.bits.specs.declared.BitPos.{BitPos}
use Rattle.lists.specs.declared.Unfit.{Unfit}
use Rattle.lists.specs.declared.Unfit.TheVariants as OfList
use Rattle.writing.specs.declared.Unwritten.{Unwritten}
use Rattle.writing.specs.declared.Unwritten.TheVariants.{TooMany, OutOfRange, Falls, Unknown, Full, Outside}

abbrev pub outcome_of : Result BitPos Unwritten → Outcome ℕ
outcome_of (Ok p) = gives p.0
outcome_of (Err TooMany) = refuses 1 0
outcome_of (Err (OutOfRange i)) = refuses 2 i
outcome_of (Err (Falls i)) = refuses 3 i
outcome_of (Err Unknown) = refuses 4 0
outcome_of (Err Full) = refuses 5 0
outcome_of (Err Outside) = refuses 12 0

-- a list that is none of its kind is not written
abbrev pub unfit_as : Unfit → Unwritten
unfit_as (OfList.Range i) = OutOfRange i
unfit_as (OfList.Falls i) = Falls i
