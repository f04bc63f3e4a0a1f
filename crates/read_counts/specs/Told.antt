-- What the reader of a count tells; every refusal at its first bit.
use Rattle.std.specs.Prelude.{Result, Ok, Err, List, ℕ}
use Rattle.format.specs.Records.{count_field}
use Rattle.bits.specs.Cursor.{Taken, Refuses}
use Rattle.bits.specs.declared.Cursor.{Cursor}
use Rattle.reading.specs.Refusals.{refusal_number}
use Rattle.reading.specs.declared.Refusal.{Refusal}
use Rattle.reading.specs.declared.Refused.{Refused}

-- a count for which there is room, or why not
pub data ToldCountField (room : ℕ) (s : List ℕ) (c : Cursor) : Result (ℕ × Cursor) Refused → Type 0 where
  is : {n : ℕ} {d : Cursor} → Taken (count_field room) s c n d → ToldCountField room s c (Ok (n, d))
  no : {m : Refusal} → Refuses (count_field room) s c (refusal_number m) c.at → ToldCountField room s c (Err (record { why = m; at = c.at }))
