-- Two answers that satisfy the contract of a count's reader are equal.
use Rattle.std.specs.Prelude.{◌≡◌, Result, Ok, Err, List, ℕ, length}
use Rattle.std.proofs.Common.{ap}
use Rattle.format.proofs.Laws.Records.{count_sound}
use Rattle.bits.specs.Cursor.{Within}
use Rattle.bits.specs.declared.Cursor.{Cursor}
use Rattle.reading.specs.Laws.Steps.{no_taken, taken_one}
use Rattle.reading.specs.Laws.Same.{refusal_one}
use Rattle.reading.specs.declared.Refused.{Refused}
use Rattle.read_counts.specs.Told as Told
use Rattle.read_counts.specs.Told.{ToldCountField}

pub count_same : {room : ℕ} {s : List ℕ} {c : Cursor} {r t : Result (ℕ × Cursor) Refused} → Within c (length s)
    → ToldCountField room s c r → ToldCountField room s c t → r ≡ t
count_same {room} w (Told.is t) (Told.is u) = let (e, f) = taken_one (count_sound room) t u in λ i. Ok (e i, f i)
count_same {room} w (Told.is t) (Told.no u) = absurd (no_taken (count_sound room) u t)
count_same {room} w (Told.no t) (Told.is u) = absurd (no_taken (count_sound room) t u)
count_same {room} w (Told.no t) (Told.no u) = ap Err (refusal_one (count_sound room) w t u)
