-- What stands next in a stream that has been checked.
use Rattle.std.specs.Prelude.{◌≡◌, Result, Ok, Err, Bool, List, ◌++◌, ℕ, ◌+◌, ◌*◌, ◌≤◌, ◌<◌, ℤ, length, take}
use Rattle.layout.specs.Bits.{window}
use Rattle.layout.specs.Layout.{Takes}
use Rattle.format.specs.Limits.{longest_buffer, longest_list}
use Rattle.format.specs.Kinds.{Kind, Plain, Instants, Corrections}
use Rattle.format.specs.Records as Records
use Rattle.format.specs.Records.{any_record}
use Rattle.format.specs.Streams.{end_mark}
use Rattle.format.specs.Answers.{gives, told_bit}
use Rattle.format.specs.Reading.{Check}
use Rattle.bits.specs.declared.BitPos.{BitPos}
use Rattle.headings.specs.Headings.{kind_of, headed}
use Rattle.headings.specs.declared.Heading.{Heading}
use Rattle.reading.specs.Refusals.{refusal_number}
use Rattle.reading.specs.declared.Refused.{Refused}
use Rattle.read_records.specs.declared.Found.{Found}
use Rattle.read_records.specs.declared.Found.TheVariants.{Record, End}

-- the bits from one on
abbrev pub on_from : List ℕ → ℕ → List Bool
on_from bytes at = window bytes at (8 * length bytes)

-- what the stream check takes stands from a bit on: records or none, the end mark, and the padding
pub record GoesOn (bytes : List ℕ) (at : ℕ) : Type 0 where
  pub small : length bytes ≤ longest_buffer
  pub inside : at ≤ 8 * length bytes
  pub records : ℕ
  pub values : ℕ
  pub told : ℕ × ℕ
  pub check : Check (8 * length bytes) (gives told) (on_from bytes at) records values

-- a record, after which the stream goes on
pub record Ahead (bytes : List ℕ) (at : ℕ) : Type 0 where
  pub entry : Records.Record
  pub rest : List Bool
  pub takes : Takes any_record (on_from bytes at) entry rest
  pub on : GoesOn bytes (told_bit (8 * length bytes) rest)

-- the reader's 7
abbrev pub OtherKind : Result Found Refused → Type 0
OtherKind (Ok f) = ⊥
OtherKind (Err r) = refusal_number r.why ≡ 7

-- the list that the values of a record of this kind are filled into
abbrev pub list_for : List ℤ → List ℤ → Kind → List ℤ
list_for values corrections Plain = values
list_for values corrections Instants = values
list_for values corrections Corrections = corrections

-- the record that stands at a bit, after which the stream goes on, or the end mark; never a refusal
pub data Next (bytes : List ℕ) (at : ℕ) (lists : Kind → List ℤ) : Result Found Refused → Type 0 where
  listed : {h : Heading} {n : ℕ} {p : BitPos} → Takes any_record (on_from bytes at) (headed h (take n (lists (kind_of h.kind)))) (on_from bytes p.0)
      → n ≤ longest_list → at < p.0 → GoesOn bytes p.0 → Next bytes at lists (Ok (Record h n p))
  ended : {p : BitPos} (rest : List Bool) → on_from bytes at ≡ end_mark ++ rest → p.0 ≡ at + 4 → Next bytes at lists (Ok (End p))
