-- An answer that is known.
use Rattle.std.specs.Prelude.{◌≡◌, Ok, Err, List, ◌++◌, map, ℕ, ℤ, pos, length, get_or, drop}
use Rattle.layout.specs.Layout.{Layout}
use Rattle.format.specs.Reading.{below}
use Rattle.bits.specs.Cursor.{Taken, Refuses}
use Rattle.bits.specs.declared.Cursor.{Cursor}
use Rattle.reading.specs.Refusals.{refusal_number}
use Rattle.reading.specs.Judging as Judging
use Rattle.reading.specs.Judging.{ToldJudged, ToldKept}
use Rattle.reading.specs.declared.Refused.{Refused}
use Rattle.reading.specs.declared.Judged.{Judged}

module _ {T : Type 0} {number : T → ℤ} {L : Layout (List ℤ)} {place sought : ℕ} {s : List ℕ} {c : Cursor} where
  pub was_whole : {r : Judged T} → ToldJudged number L place sought s c (Ok r) → (xs : List T) × Taken L s c (map number xs) r.after × (number r.value ≡ get_or (map number xs) place (pos 0)) × (r.below ≡ below sought (map number xs))
  was_whole (Judging.whole xs t a b) = (xs, t, a, b)

  pub was_no : {r : Refused} → ToldJudged number L place sought s c (Err r) → Refuses L s c (refusal_number r.why) r.at
  was_no (Judging.no k) = k

module _ {L : Layout (List ℤ)} {n : ℕ} {s : List ℕ} {c : Cursor} {old new : List ℤ} where
  pub kept_whole : {d : Cursor} → ToldKept L n s c old new (Ok d) → (vs : List ℤ) × Taken L s c vs d × (length vs ≡ n) × (new ≡ vs ++ drop n old)
  kept_whole (Judging.whole vs t a b) = (vs, t, a, b)

  pub kept_no : {r : Refused} → ToldKept L n s c old new (Err r) → Refuses L s c (refusal_number r.why) r.at
  kept_no (Judging.no k) = k
