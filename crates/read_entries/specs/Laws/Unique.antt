-- Two answers that satisfy a reading entry's contract are equal, and so is all lent memory.
use Rattle.std.specs.Prelude.{◌≡◌, Result, List, map, ℕ, ℤ, pos}
use Rattle.format.specs.Kinds.{Family, Unsigned, Signed}
use Rattle.format.specs.Reading.{LooksUp, Searches, Checks}
use Rattle.format.proofs.Laws.Reading.{reads_one, looks_up_one, searches_one, checks_one}
use Rattle.reading.specs.Laws.Naturals.{naturals_one}
use Rattle.read_records.specs.Told.{item_of}
use Rattle.find_in_records.specs.Told.{looked_up, looked_up_correction, searched}
use Rattle.read_records.specs.Laws.Answers.{item_same}
use Rattle.find_in_records.specs.Laws.Answers.{looked_up_same, correction_same, searched_same}
use Rattle.read_records.specs.declared.Found.{Found}
use Rattle.reading.specs.declared.Refused.{Refused}
use Rattle.read_streams.specs.Told.{checked}
use Rattle.read_streams.specs.Laws.Same.{checked_same}
use Rattle.read_streams.specs.declared.Checked.{Checked}
use Rattle.read_entries.specs.Reads.{ReadsInto}

module _ (bytes : List ℕ) (start stop : ℕ) where
  pub read_into_one : (f : Family) (kind : ℕ) (old : List ℤ) (a b : Result Found Refused) (new new' : List ℤ) → ReadsInto bytes start stop f kind old a new → ReadsInto bytes start stop f kind old b new' → (a ≡ b) × (new ≡ new')
  read_into_one f kind old a b new new' x y =
      let (e, g) = reads_one bytes start stop f kind old (item_of a new) (item_of b new') new new' x.reads y.reads in
      (item_same a b new new' x.counted y.counted e, g)

  -- of the lent list itself, in either family
  pub read_one : (kind : ℕ) (old : List ℕ) (a b : Result Found Refused) (new new' : List ℕ)
      → ReadsInto bytes start stop Unsigned kind (map pos old) a (map pos new) → ReadsInto bytes start stop Unsigned kind (map pos old) b (map pos new') → (a ≡ b) × (new ≡ new')
  read_one kind old a b new new' x y =
      let (e, g) = read_into_one Unsigned kind (map pos old) a b (map pos new) (map pos new') x y in
      (e, naturals_one new new' g)

  pub read_corrections_one : (kind : ℕ) (old : List ℤ) (a b : Result Found Refused) (new new' : List ℤ) → ReadsInto bytes start stop Signed kind old a new → ReadsInto bytes start stop Signed kind old b new' → (a ≡ b) × (new ≡ new')
  read_corrections_one = read_into_one Signed

  pub look_up_one : (f : Family) (kind place : ℕ) (a b : Result ℕ Refused) → LooksUp bytes start stop f kind place (looked_up a) → LooksUp bytes start stop f kind place (looked_up b) → a ≡ b
  look_up_one f kind place a b x y = looked_up_same a b (looks_up_one bytes start stop f kind place (looked_up a) (looked_up b) x y)

  pub look_up_correction_one : (f : Family) (kind place : ℕ) (a b : Result ℤ Refused) → LooksUp bytes start stop f kind place (looked_up_correction a) → LooksUp bytes start stop f kind place (looked_up_correction b) → a ≡ b
  look_up_correction_one f kind place a b x y = correction_same a b (looks_up_one bytes start stop f kind place (looked_up_correction a) (looked_up_correction b) x y)

  pub search_one : (sought : ℕ) (a b : Result ℕ Refused) → Searches bytes start stop sought (searched a) → Searches bytes start stop sought (searched b) → a ≡ b
  search_one sought a b x y = searched_same a b (searches_one bytes start stop sought (searched a) (searched b) x y)

pub check_one : (bytes : List ℕ) (a b : Result Checked Refused) → Checks bytes (checked a) → Checks bytes (checked b) → a ≡ b
check_one bytes a b x y = checked_same a b (checks_one bytes (checked a) (checked b) x y)
