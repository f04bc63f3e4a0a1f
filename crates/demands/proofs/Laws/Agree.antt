-- A reader "uses no bit from the stop on", nor one before the start: two buffers that agree between get the same answer and list.
use Rattle.std.specs.Prelude.{◌≡◌, Result, Bool, List, map, ℕ, ℤ, pos, length}
use Rattle.layout.specs.Bits.{window}
use Rattle.format.specs.Kinds.{Kind, Family, Unsigned, Signed}
use Rattle.format.specs.Records.{This}
use Rattle.format.specs.Answers.{Outcome, Span}
use Rattle.format.specs.Reading.{Reader, asked_for, LookUp, LooksUp, Search, Searches}
use Rattle.format.proofs.Laws.Reading.{entry_same, looks_up_one, searches_one}
use Rattle.reading.specs.declared.Refused.{Refused}
use Rattle.read_records.specs.declared.Found.{Found}
use Rattle.read_entries.specs.Reads.{ReadsInto}
use Rattle.read_entries.specs.Laws.Unique.{read_one, read_corrections_one}

module _ (bytes bytes' : List ℕ) (start stop : ℕ) (s : Span bytes start stop) (s' : Span bytes' start stop) (e : window bytes start stop ≡ window bytes' start stop) where
  moved : {f : Family} {kind : ℕ} {old new : List ℤ} {a : Result Found Refused} → ReadsInto bytes start stop f kind old a new → ReadsInto bytes' start stop f kind old a new
  moved {old = old} x =
      record {
        reads = record {
          answer = entry_same (λ (w : List Bool) (t : Kind). Reader (record { wanted = This t; room = length old }) stop w) bytes bytes' start stop s s' e x.reads.answer;
          list = x.reads.list;
        };
        counted = x.counted;
      }

  pub read_agrees : (kind : ℕ) (old new new' : List ℕ) (a b : Result Found Refused)
      → ReadsInto bytes start stop Unsigned kind (map pos old) a (map pos new) → ReadsInto bytes' start stop Unsigned kind (map pos old) b (map pos new') → (a ≡ b) × (new ≡ new')
  read_agrees kind old new new' a b x y = read_one bytes' start stop kind old a b new new' (moved x) y

  pub read_corrections_agrees : (kind : ℕ) (old new new' : List ℤ) (a b : Result Found Refused) → ReadsInto bytes start stop Signed kind old a new → ReadsInto bytes' start stop Signed kind old b new' → (a ≡ b) × (new ≡ new')
  read_corrections_agrees kind old new new' a b x y = read_corrections_one bytes' start stop kind old a b new new' (moved x) y

  pub look_up_agrees : (f : Family) (kind place : ℕ) (x y : Outcome ℤ) → LooksUp bytes start stop f kind place x → LooksUp bytes' start stop f kind place y → x ≡ y
  look_up_agrees f kind place x y h l =
      looks_up_one bytes' start stop f kind place x y (entry_same (λ (w : List Bool) (t : Kind). LookUp place (asked_for t) stop w) bytes bytes' start stop s s' e h) l

  pub search_agrees : (sought : ℕ) (x y : Outcome ℕ) → Searches bytes start stop sought x → Searches bytes' start stop sought y → x ≡ y
  search_agrees sought x y h l =
      searches_one bytes' start stop sought x y (entry_same (λ (w : List Bool) (t : Kind). Search sought (asked_for t) stop w) bytes bytes' start stop s s' e h) l
