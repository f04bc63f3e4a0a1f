-- What was seen of a record at a cursor, as document 01 tells it of the bits between start and stop.
use Rattle.std.specs.Prelude.{◌≡◌, Ok, Err, List, map, ℕ, ◌≤◌, ◌<◌, ℤ, pos, length, get_or}
use Rattle.std.proofs.Common.{sym, ◌∙◌, arith}
use Rattle.std.proofs.lemmas.List.{length-map}
use Rattle.format.specs.Records.{Asked, record_for}
use Rattle.format.specs.Answers.{refuses, gives}
use Rattle.format.specs.Reading as Reading
use Rattle.format.specs.Reading.{LookUp, Search, below}
use Rattle.bits.specs.Cursor.{Within, left, to, Taken, Refuses}
use Rattle.bits.specs.declared.BitPos.{BitPos}
use Rattle.bits.specs.declared.Cursor.{Cursor}
use Rattle.headings.specs.declared.Heading.{Heading}
use Rattle.reading.specs.Refusals.{refusal_number}
use Rattle.reading.specs.Laws.Steps.{told_at}
use Rattle.reading.specs.declared.Refused.{Refused}
use Rattle.read_headings.specs.Told.{body_of, Headed}
use Rattle.read_bodies.specs.Laws.Bodies.{counted_values}
use Rattle.find_in_records.specs.Told as Told
use Rattle.find_in_records.specs.Told.{ToldSeen}
use Rattle.find_in_records.specs.declared.Seen.{Seen}

module _ {q : Asked} {s : List ℕ} {c : Cursor} (w : Within c (length s)) where
  pub finds_no : {place n : ℕ} {p : BitPos} → Refuses (record_for q) s c n p → LookUp place q c.stop.0 (left c s) (refuses n p.0)
  finds_no {p = p} r = Reading.fails (left (to c p) s) r.no (told_at s c p w r.upto)

  pub searches_no : {sought n : ℕ} {p : BitPos} → Refuses (record_for q) s c n p → Search sought q c.stop.0 (left c s) (refuses n p.0)
  searches_no {p = p} r = Reading.fails (left (to c p) s) r.no (told_at s c p w r.upto)

module _ {T : Type 0} {number : T → ℤ} {q : Asked} {place sought : ℕ} {s : List ℕ} {c : Cursor} where
  pub seen_whole : {h : Heading} {n : ℕ} {d e : Cursor} {v : T} {less : ℕ} → Headed q s c h n d → (xs : List T) → Taken (body_of h n) s d (map number xs) e
      → number v ≡ get_or (map number xs) place (pos 0) → less ≡ below sought (map number xs) → ToldSeen number q place sought s c (Ok (record { count = n; value = v; below = less }))
  seen_whole {h = h} {e = e} k xs t a b = Told.whole h xs e (k.reached.then (map number xs) e t) (sym (counted_values k.legal t) ∙ length-map xs number) a b

  pub was_unseen : {r : Refused} → ToldSeen number q place sought s c (Err r) → Refuses (record_for q) s c (refusal_number r.why) r.at
  was_unseen (Told.no x) = x

  pub found : {r : Seen T} → ToldSeen number q place sought s c (Ok r) → place < r.count → LookUp place q c.stop.0 (left c s) (gives (number r.value))
  found (Told.whole g xs d t n v b) h = Reading.finds t.takes (omega (arith, n, length-map xs number)) v

  -- "13 comes last", and tells 0
  pub beyond : {r : Seen T} → ToldSeen number q place sought s c (Ok r) → r.count ≤ place → LookUp place q c.stop.0 (left c s) (refuses 13 0)
  beyond (Told.whole g xs d t n v b) h = Reading.beyond t.takes (omega (arith, n, length-map xs number))

  pub counts : {r : Seen T} → ToldSeen number q place sought s c (Ok r) → Search sought q c.stop.0 (left c s) (gives r.below)
  counts (Told.whole g xs d t n v b) = Reading.counts t.takes b
