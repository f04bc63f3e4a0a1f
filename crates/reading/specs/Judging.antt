-- What judging and keeping a list come to, whatever its layout.
use Rattle.std.specs.Prelude.{◌≡◌, Result, Ok, Err, List, ◌++◌, map, ℕ, ℤ, pos, length, get_or, drop}
use Rattle.layout.specs.Layout.{Layout}
use Rattle.format.specs.Reading.{below}
use Rattle.bits.specs.Cursor.{Taken, Refuses}
use Rattle.bits.specs.declared.Cursor.{Cursor}
use Rattle.reading.specs.Refusals.{refusal_number}
use Rattle.reading.specs.declared.Refused.{Refused}
use Rattle.reading.specs.declared.Judged.{Judged}

-- a list of such numbers stands at c: the value at a place and the number below a sought one are the list's own
pub data ToldJudged {T : Type 0} (number : T → ℤ) (L : Layout (List ℤ)) (place sought : ℕ) (s : List ℕ) (c : Cursor) : Result (Judged T) Refused → Type 0 where
  whole : {r : Judged T} (xs : List T) → Taken L s c (map number xs) r.after → number r.value ≡ get_or (map number xs) place (pos 0) → r.below ≡ below sought (map number xs) → ToldJudged number L place sought s c (Ok r)
  no : {r : Refused} → Refuses L s c (refusal_number r.why) r.at → ToldJudged number L place sought s c (Err r)

-- the n values that stand at c have been put in front of an own list, whose rest has stayed; where they are refused, it may hold anything
pub data ToldKept (L : Layout (List ℤ)) (n : ℕ) (s : List ℕ) (c : Cursor) (old new : List ℤ) : Result Cursor Refused → Type 0 where
  whole : {d : Cursor} (vs : List ℤ) → Taken L s c vs d → length vs ≡ n → new ≡ vs ++ drop n old → ToldKept L n s c old new (Ok d)
  no : {r : Refused} → Refuses L s c (refusal_number r.why) r.at → ToldKept L n s c old new (Err r)
