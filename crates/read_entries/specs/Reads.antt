-- What a reader's answer and the lent list afterwards are together.
use Rattle.std.specs.Prelude.{Result, List, ℕ, ℤ}
use Rattle.format.specs.Kinds.{Family}
use Rattle.format.specs.Reading.{Reads}
use Rattle.read_records.specs.Told.{item_of, Counted}
use Rattle.reading.specs.declared.Refused.{Refused}
use Rattle.read_records.specs.declared.Found.{Found}

-- the answer and the list are document 01's, and a record's count is told
pub record ReadsInto (bytes : List ℕ) (start stop : ℕ) (f : Family) (kind : ℕ) (old : List ℤ) (r : Result Found Refused) (new : List ℤ) : Type 0 where
  pub reads : Reads bytes start stop f kind old (item_of r new) new
  pub counted : Counted r new
