-- A list gone through, with one beside it to keep it in.
use Rattle.std.specs.Prelude.{◌≡◌, Result, Ok, Err, List, ◌++◌, map, ℕ, ◌≤◌, ℤ, pos, length, get_or, drop}
use Rattle.layout.specs.Layout.{Layout}
use Rattle.format.specs.Reading.{below}
use Rattle.bits.specs.Cursor.{Taken, Refuses}
use Rattle.bits.specs.declared.Cursor.{Cursor}
use Rattle.reading.specs.Refusals.{refusal_number}
use Rattle.reading.specs.declared.Refused.{Refused}
use Rattle.reading.specs.declared.Judged.{Judged}

-- as `ToldJudged` says it, and a list with room for n values has them in front
pub data GoneThrough {T : Type 0} (number : T → ℤ) (L : Layout (List ℤ)) (n place sought : ℕ) (s : List ℕ) (c : Cursor) (old new : List T) : Result (Judged T) Refused → Type 0 where
  whole : {r : Judged T} (xs : List T) → Taken L s c (map number xs) r.after → number r.value ≡ get_or (map number xs) place (pos 0) → r.below ≡ below sought (map number xs)
      → length (map number xs) ≡ n → (n ≤ length old → new ≡ xs ++ drop n old) → GoneThrough number L n place sought s c old new (Ok r)
  no : {r : Refused} → Refuses L s c (refusal_number r.why) r.at → GoneThrough number L n place sought s c old new (Err r)
