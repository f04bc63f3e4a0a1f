-- What the readers of whole records tell, and the numbers and values of document 01 that their answers stand for.
use Rattle.std.specs.Prelude.{◌≡◌, Result, Ok, Err, List, ◌++◌, ℕ, ◌≤◌, ℤ, length, take, drop}
use Rattle.format.specs.Kinds.{Kind}
use Rattle.format.specs.Records.{This}
use Rattle.format.specs.Answers.{Outcome, refuses, gives}
use Rattle.format.specs.Reading.{Item, listed, ended, Reader, filled}
use Rattle.bits.specs.Cursor.{left, Taken, Refuses}
use Rattle.bits.specs.declared.Cursor.{Cursor}
use Rattle.headings.specs.Headings.{headed}
use Rattle.headings.specs.declared.Heading.{Heading}
use Rattle.reading.specs.Refusals.{refusal_number}
use Rattle.reading.specs.declared.Refused.{Refused}
use Rattle.read_headings.specs.Told.{body_of}
use Rattle.read_records.specs.declared.Found.{Found}
use Rattle.read_records.specs.declared.Found.TheVariants as OfFound

-- ---- the public answers: the table's number and the bit told with it, or what is given

-- a record's values are the first `count` of the lent list, afterwards
abbrev pub item_of : Result Found Refused → List ℤ → Outcome Item
item_of (Ok (OfFound.Record h n p)) new = gives (listed (headed h (take n new)) p.0)
item_of (Ok (OfFound.End p)) new = gives (ended p.0)
item_of (Err r) new = refuses (refusal_number r.why) r.at.0

abbrev pub Counted : Result Found Refused → List ℤ → Type 0
Counted (Ok (OfFound.Record h n p)) new = n ≤ length new
Counted (Ok (OfFound.End p)) new = Unit {0}
Counted (Err r) new = Unit {0}

-- ---- at a cursor

-- a record of this kind has been read into a lent list that was `old` and is `new`, or an end mark, or neither
pub record ToldRead (t : Kind) (s : List ℕ) (c : Cursor) (old new : List ℤ) (r : Result Found Refused) : Type 0 where
  pub fields : Reader (record { wanted = This t; room = length old }) c.stop.0 (left c s) (item_of r new)
  pub list : new ≡ filled old (item_of r new)
  pub counted : Counted r new

-- the first n values of an own list have been put in front of a lent one, whose rest has stayed
pub record Copied {A : Type 0} (n : ℕ) (own old new : List A) : Type 0 where
  pub front : new ≡ take n own ++ drop n old

-- the list after a heading has been read
pub data ToldListed (h : Heading) (n : ℕ) (s : List ℕ) (c : Cursor) (old new : List ℤ) : Result Found Refused → Type 0 where
  took : (vs : List ℤ) (d : Cursor) → Taken (body_of h n) s c vs d → new ≡ vs ++ drop (length vs) old → ToldListed h n s c old new (Ok (OfFound.Record h n d.at))
  no : {r : Refused} → Refuses (body_of h n) s c (refusal_number r.why) r.at → new ≡ old → ToldListed h n s c old new (Err r)
