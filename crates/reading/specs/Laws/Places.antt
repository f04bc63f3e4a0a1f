-- What the tests of a reader's positions come to.
use Rattle.std.specs.Prelude.{◌≡◌, refl, Result, Ok, Err, List, ℕ, ◌*◌, ◌≤◌, ◌<◌, length}
use Rattle.std.proofs.Common.{arith}
use Rattle.format.specs.Limits.{longest_buffer}
use Rattle.format.specs.Answers.{Span}
use Rattle.bits.specs.Cursor.{Within}
use Rattle.bits.specs.declared.BitPos.{BitPos}
use Rattle.bits.specs.declared.Cursor.{Cursor}
use Rattle.reading.specs.Places as Places
use Rattle.reading.specs.Places.{ToldPlace}
use Rattle.reading.specs.declared.Refusal.TheVariants.{Outside}
use Rattle.reading.specs.declared.Refused.{Refused}

abbrev pub from : BitPos → BitPos → Cursor
from start stop = record { at = start; stop = stop }

pub was_placed : {bytes : List ℕ} {start stop : BitPos} {c : Cursor} → ToldPlace bytes start stop (Ok c) → Span bytes start.0 stop.0 × (from start stop ≡ c)
was_placed (Places.at h) = (h, refl)

pub placed_within : {bytes : List ℕ} {start stop : BitPos} {c : Cursor} → ToldPlace bytes start stop (Ok c) → Within c (length bytes)
placed_within (Places.at h) = record { order = h.order; inside = h.inside; small = h.small }

module _ (bytes : List ℕ) (start stop : BitPos) where
  pub place_long : longest_buffer < length bytes → ToldPlace bytes start stop (Err (record { why = Outside; at = record { 0 = 0 } }))
  place_long h = Places.outside (λ s. omega (arith, s.small))

  pub place_order : stop.0 < start.0 → ToldPlace bytes start stop (Err (record { why = Outside; at = record { 0 = 0 } }))
  place_order h = Places.outside (λ s. omega (arith, s.order))

  pub place_past : 8 * length bytes < stop.0 → ToldPlace bytes start stop (Err (record { why = Outside; at = record { 0 = 0 } }))
  place_past h = Places.outside (λ s. omega (arith, s.inside))

  pub place_right : length bytes ≤ longest_buffer → start.0 ≤ stop.0 → stop.0 ≤ 8 * length bytes → ToldPlace bytes start stop (Ok (from start stop))
  place_right a b d = Places.at (record { small = a; order = b; inside = d })

pub place_same : {bytes : List ℕ} {start stop : BitPos} {a b : Result Cursor Refused} → ToldPlace bytes start stop a → ToldPlace bytes start stop b → a ≡ b
place_same (Places.at h) (Places.at k) = refl
place_same (Places.at h) (Places.outside k) = absurd (k h)
place_same (Places.outside h) (Places.at k) = absurd (h k)
place_same (Places.outside h) (Places.outside k) = refl
