-- What look-up and search tell, and the numbers and values of document 01 that their answers stand for.
use Rattle.std.specs.Prelude.{◌≡◌, Result, Ok, Err, List, map, ℕ, ℤ, pos, length, get_or}
use Rattle.format.specs.Records.{Asked, record_for}
use Rattle.format.specs.Answers.{Outcome, refuses, gives}
use Rattle.format.specs.Reading.{below}
use Rattle.bits.specs.Cursor.{Taken, Refuses}
use Rattle.bits.specs.declared.Cursor.{Cursor}
use Rattle.headings.specs.Headings.{headed}
use Rattle.headings.specs.declared.Heading.{Heading}
use Rattle.reading.specs.Refusals.{refusal_number}
use Rattle.reading.specs.declared.Refused.{Refused}
use Rattle.find_in_records.specs.declared.Seen.{Seen}

-- ---- the public answers: the table's number and the bit told with it, or what is given

abbrev pub value_told : {T : Type 0} → (T → ℤ) → Result T Refused → Outcome ℤ
value_told number (Ok v) = gives (number v)
value_told number (Err r) = refuses (refusal_number r.why) r.at.0

abbrev pub looked_up : Result ℕ Refused → Outcome ℤ
looked_up = value_told pos

abbrev pub looked_up_correction : Result ℤ Refused → Outcome ℤ
looked_up_correction = value_told (λ v. v)

abbrev pub searched : Result ℕ Refused → Outcome ℕ
searched (Ok n) = gives n
searched (Err r) = refuses (refusal_number r.why) r.at.0

-- ---- at a cursor

-- a whole record of such numbers, without a list
pub data ToldSeen {T : Type 0} (number : T → ℤ) (q : Asked) (place sought : ℕ) (s : List ℕ) (c : Cursor) : Result (Seen T) Refused → Type 0 where
  whole : {r : Seen T} (h : Heading) (xs : List T) (d : Cursor) → Taken (record_for q) s c (headed h (map number xs)) d
      → r.count ≡ length xs → number r.value ≡ get_or (map number xs) place (pos 0) → r.below ≡ below sought (map number xs) → ToldSeen number q place sought s c (Ok r)
  no : {r : Refused} → Refuses (record_for q) s c (refusal_number r.why) r.at → ToldSeen number q place sought s c (Err r)
