-- What the program gathers to be printed: the lines of a stream, or the one of a refusal.
use Rattle.std.specs.Prelude.{◌≡◌, Some, None, Result, Ok, Err, Bool, List, ◌++◌, ℕ, ◌≤◌, ◌<◌, length, take}
use Rattle.layout.specs.Layout.{Takes}
use Rattle.format.specs.Records as Records
use Rattle.format.specs.Records.{any_record}
use Rattle.format.specs.Streams.{end_mark}
use Rattle.format.specs.Answers.{refuses, gives}
use Rattle.format.specs.Reading.{Checks}
use Rattle.bits.specs.declared.BitPos.{BitPos}
use Rattle.lines.specs.Text.{RecordLine, EndLine, RefusalLine}
use Rattle.show.specs.Next.{on_from, GoesOn}
use Rattle.show.specs.declared.records.Line.{Line}

-- the first n bytes of a buffer are such a text
pub record Gathered (Text : List ℕ → Type 0) (out : List ℕ) (n : ℕ) : Type 0 where
  pub inside : n ≤ length out
  pub is : Text (take n out)

-- "A stream that the check refuses (12 if too long) prints only `refused`, the answer and the bit"
pub data Begins (bytes out : List ℕ) : Result Unit ℕ → Type 0 where
  checked : (told : ℕ × ℕ) → Checks bytes (gives told) → Begins bytes out (Ok tt)
  refused : {n : ℕ} (answer bit : ℕ) → Checks bytes (refuses answer bit) → Gathered (RefusalLine answer bit) out n → Begins bytes out (Err n)

-- in a stream that has been checked: the line of the record that stands at a bit, after which the stream goes on, or where the end mark
-- stands there the end's
pub data Steps (bytes : List ℕ) (at : ℕ) (out : List ℕ) : Line → Type 0 where
  more : {n : ℕ} {p : BitPos} (r : Records.Record) → Takes any_record (on_from bytes at) r (on_from bytes p.0) → Gathered (RecordLine r) out n
      → at < p.0 → GoesOn bytes p.0 → Steps bytes at out (record { bytes = n; next = Some p })
  last : {n : ℕ} (rest : List Bool) → on_from bytes at ≡ end_mark ++ rest → Gathered EndLine out n → Steps bytes at out (record { bytes = n; next = None })
