-- An answer that is known.
use Rattle.std.specs.Prelude.{Ok, Err, List, ℕ}
use Rattle.format.specs.Records.{count_field}
use Rattle.bits.specs.Cursor.{Taken, Refuses}
use Rattle.bits.specs.declared.Cursor.{Cursor}
use Rattle.reading.specs.Refusals.{refusal_number}
use Rattle.reading.specs.declared.Refused.{Refused}
use Rattle.read_counts.specs.Told as Told
use Rattle.read_counts.specs.Told.{ToldCountField}

module _ {room : ℕ} {s : List ℕ} {c : Cursor} where
  pub was_count : {n : ℕ} {d : Cursor} → ToldCountField room s c (Ok (n, d)) → Taken (count_field room) s c n d
  was_count (Told.is t) = t

  pub was_no_count : {r : Refused} → ToldCountField room s c (Err r) → Refuses (count_field room) s c (refusal_number r.why) r.at
  was_no_count (Told.no k) = k
