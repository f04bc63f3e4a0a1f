-- Calls of the entries, one after the other, as a caller makes them.
use Rattle.std.specs.Prelude.{◌≡◌, true, false, Result, Ok, List, [], ◌∷◌, ◌++◌, ℕ, zero, suc, ◌+◌, ◌≤◌, ltb, ℤ, length, drop}
use Rattle.format.specs.Kinds.{Kind, Family}
use Rattle.format.specs.Records.{Rice, code_number, Record}
use Rattle.format.specs.Answers.{gives, Told}
use Rattle.format.specs.Reading.{listed}
use Rattle.format.specs.Writing.{Writes}
use Rattle.format.specs.Restated.{Holds}
use Rattle.bits.specs.declared.BitPos.{BitPos}
use Rattle.read_records.specs.Told.{item_of}
use Rattle.reading.specs.declared.Refused.{Refused}
use Rattle.read_records.specs.declared.Found.{Found}
use Rattle.read_records.specs.declared.Found.TheVariants.{End}
use Rattle.read_entries.specs.Reads.{ReadsInto}
use Rattle.writing.specs.Wrote.{outcome_of}

-- what `write`, or for corrections `write_corrections`, is given beside the buffer and the start
pub record Call : Type 0 where
  pub family : Family
  pub code : ℕ
  pub parameter : ℕ
  pub kind : ℕ
  pub values : List ℤ

-- calls that succeed, each from the bit that the one before it has told: "with nothing between them"
pub data WrittenInTurn : List Call → (bytes : List ℕ) (start : ℕ) (after : List ℕ) (next : ℕ) → Type 0 where
  none : {bytes : List ℕ} {start : ℕ} → WrittenInTurn [] bytes start bytes start
  then : {q : Call} {qs : List Call} {bytes middle after : List ℕ} {start next : ℕ} (p : BitPos)
      → Writes bytes start q.family q.code q.parameter q.kind q.values (outcome_of (Ok p)) middle → WrittenInTurn qs middle p.0 after next
      → WrittenInTurn (q ∷ qs) bytes start after next

-- two calls ask for the same record: "in code, kind, parameter, number, order and every value"; a parameter counts for Rice alone
pub record SameRecord (q r : Call) : Type 0 where
  pub code : q.code ≡ r.code
  pub kind : q.kind ≡ r.kind
  pub parameter : q.code ≡ code_number Rice → q.parameter ≡ r.parameter
  pub values : q.values ≡ r.values

-- "the records of the first are the first records of the second", one by one
abbrev pub FirstOf : List Call → List Call → Type 0
FirstOf [] rs = Unit {0}
FirstOf (q ∷ qs) [] = ⊥
FirstOf (q ∷ qs) (r ∷ rs) = SameRecord q r × FirstOf qs rs

-- the second sequence is the first one's records, as many as these are, and more or none
pub record BeginsWith (qs ss : List Call) : Type 0 where
  pub first : List Call
  pub more : List Call
  pub whole : ss ≡ first ++ more
  pub as_many : length first ≡ length qs
  pub same : FirstOf qs first

-- how many values were written
abbrev pub values_of : List Call → ℕ
values_of [] = 0
values_of (q ∷ qs) = length q.values + values_of qs

-- a list that was written comes back with its code, kind and parameter, in front of a lent list, and p is the bit after it
pub record Back (code parameter kind : ℕ) (values old : List ℤ) (p : ℕ) (r : Result Found Refused) (new : List ℤ) : Type 0 where
  pub entry : Record
  pub holds : Holds entry code parameter kind values
  pub answer : item_of r new ≡ gives (listed entry p)
  pub list : new ≡ values ++ drop (length values) old

-- reading from bit `at` on, each time from the bit that was told: what was written comes back call by call, into any list that has
-- room, and then whoever asks for a kind of his entry is told the end
abbrev pub ReadInTurn : List ℕ → ℕ → List Call → ℕ → Type 0
ReadInTurn bytes stop [] at =
    (f : Family) (kind : ℕ) (t : Kind) → Told f kind t → (old new : List ℤ) (r : Result Found Refused) → ReadsInto bytes at stop f kind old r new → (r ≡ Ok (End (record { 0 = at + 4 }))) × (new ≡ old)
ReadInTurn bytes stop (q ∷ qs) at =
    (p : ℕ)
    × ((old new : List ℤ) (r : Result Found Refused) → length q.values ≤ length old → ReadsInto bytes at stop q.family q.kind old r new → Back q.code q.parameter q.kind q.values old p r new)
    × ReadInTurn bytes stop qs p

-- of the first n places, how many have a number below the one sought
abbrev pub places_below : ℕ → (ℕ → ℕ) → ℕ → ℕ
places_below sought look zero = 0
places_below sought look (suc n) = places_below sought look n + elim (ltb (look n) sought) [ true ↦ 1 | false ↦ 0 ]
