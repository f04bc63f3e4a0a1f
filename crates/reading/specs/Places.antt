-- What the test of a reader's positions tells.
use Rattle.std.specs.Prelude.{Result, Ok, Err, List, ℕ}
use Rattle.format.specs.Answers.{Span}
use Rattle.bits.specs.declared.BitPos.{BitPos}
use Rattle.bits.specs.declared.Cursor.{Cursor}
use Rattle.reading.specs.declared.Refusal.TheVariants.{Outside}
use Rattle.reading.specs.declared.Refused.{Refused}

-- "12: buffer too long, or a position outside the rule above", "every other refusal 0"
pub data ToldPlace (bytes : List ℕ) (start stop : BitPos) : Result Cursor Refused → Type 0 where
  at : Span bytes start.0 stop.0 → ToldPlace bytes start stop (Ok (record { at = start; stop = stop }))
  outside : (Span bytes start.0 stop.0 → ⊥) → ToldPlace bytes start stop (Err (record { why = Outside; at = record { 0 = 0 } }))
