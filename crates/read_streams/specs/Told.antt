-- What the stream check tells, and the numbers of document 01 that its answer stands for.
use Rattle.std.specs.Prelude.{Result, Ok, Err, List, ℕ, ℤ}
use Rattle.layout.specs.Layout.{Layout}
use Rattle.format.specs.Answers.{Outcome, refuses, gives}
use Rattle.bits.specs.Cursor.{Taken, Refuses}
use Rattle.bits.specs.declared.Cursor.{Cursor}
use Rattle.reading.specs.Refusals.{refusal_number}
use Rattle.reading.specs.declared.Refused.{Refused}
use Rattle.read_streams.specs.declared.Checked.{Checked}

-- ---- the public answer: the table's number and the bit told with it, or how many records and values there are

abbrev pub checked : Result Checked Refused → Outcome (ℕ × ℕ)
checked (Ok r) = gives (r.records, r.values)
checked (Err r) = refuses (refusal_number r.why) r.at.0

-- ---- at a cursor

-- some list stands at c, before d
pub data ToldPassed (L : Layout (List ℤ)) (s : List ℕ) (c : Cursor) : Result Cursor Refused → Type 0 where
  after : {d : Cursor} (vs : List ℤ) → Taken L s c vs d → ToldPassed L s c (Ok d)
  no : {r : Refused} → Refuses L s c (refusal_number r.why) r.at → ToldPassed L s c (Err r)
