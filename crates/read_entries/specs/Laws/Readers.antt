-- What the tests of the reading entries and the readings below them come to.
use Rattle.std.specs.Prelude.{◌≡◌, refl, Result, Ok, Err, Some, None, Bool, List, ℕ, ◌*◌, ◌≤◌, ◌<◌, ℤ, length}
use Rattle.std.proofs.Common.{ap₂, ◌∙◌, subst₂, arith, take_all}
use Rattle.layout.specs.Bits.{bits_of, window}
use Rattle.layout.proofs.Laws.Bits.{length_bits_of}
use Rattle.format.specs.Limits.{longest_buffer}
use Rattle.format.specs.Kinds as Kinds
use Rattle.format.specs.Kinds.{Kind, Family}
use Rattle.format.specs.Answers.{Outcome, refuses, Told}
use Rattle.format.specs.Reading as Reading
use Rattle.format.specs.Reading.{Entry, LookUp, LooksUp, asked_for, Search, Searches, Check, Checks}
use Rattle.bits.specs.Cursor.{left}
use Rattle.bits.specs.declared.BitPos.{BitPos}
use Rattle.bits.specs.declared.Cursor.{Cursor}
use Rattle.headings.specs.Headings as Headings
use Rattle.headings.specs.Headings.{kind_of, ToldKind}
use Rattle.headings.specs.declared.Kind as Declared
use Rattle.reading.specs.Refusals.{refusal_number}
use Rattle.reading.specs.declared.Refusal.TheVariants.{Unknown}
use Rattle.reading.specs.declared.Refused.{Refused}
use Rattle.reading.specs.Places as Places
use Rattle.reading.specs.Places.{ToldPlace}
use Rattle.read_records.specs.Told.{ToldRead}
use Rattle.read_records.specs.declared.Found.{Found}
use Rattle.read_entries.specs.Asked as Asked
use Rattle.read_entries.specs.Asked.{ToldAsked}
use Rattle.read_entries.specs.Reads.{ReadsInto}

-- ---- the asked kind

pub asked_is : {f : Family} {kind : ℕ} {t : Declared.Kind} → ToldKind f kind (Some t) → ToldAsked f kind (Ok t)
asked_is (Headings.is h) = Asked.is h

pub asked_stranger : {f : Family} {kind : ℕ} → ToldKind f kind None → ToldAsked f kind (Err (record { why = Unknown; at = record { 0 = 0 } }))
asked_stranger (Headings.unknown h) = Asked.stranger h

pub was_asked : {f : Family} {kind : ℕ} {t : Declared.Kind} → ToldAsked f kind (Ok t) → Told f kind (kind_of t)
was_asked (Asked.is h) = h

module _ {bytes : List ℕ} {start stop : BitPos} where
  -- ---- every entry that reads one record: 12 and 7 first, which tell 0

  module _ {A : Type 0} {f : Family} {kind : ℕ} {Fields : Kind → Outcome A → Type 0} where
    pub outside_entry : {r : Refused} → ToldPlace bytes start stop (Err r) → Entry bytes start.0 stop.0 f kind Fields (refuses (refusal_number r.why) r.at.0)
    outside_entry (Places.outside h) = Reading.outside h

    pub stranger_entry : {r : Refused} {c : Cursor} → ToldPlace bytes start stop (Ok c) → ToldAsked f kind (Err r) → Entry bytes start.0 stop.0 f kind Fields (refuses (refusal_number r.why) r.at.0)
    stranger_entry (Places.at h) (Asked.stranger k) = Reading.stranger h k

  -- ---- the reader

  module _ {f : Family} {kind : ℕ} {old : List ℤ} where
    pub reads_outside : {r : Refused} → ToldPlace bytes start stop (Err r) → ReadsInto bytes start.0 stop.0 f kind old (Err r) old
    reads_outside p = record { reads = record { answer = outside_entry p; list = refl }; counted = tt }

    pub reads_stranger : {r : Refused} {c : Cursor} → ToldPlace bytes start stop (Ok c) → ToldAsked f kind (Err r) → ReadsInto bytes start.0 stop.0 f kind old (Err r) old
    reads_stranger p k = record { reads = record { answer = stranger_entry p k; list = refl }; counted = tt }

    pub reads_placed : {c : Cursor} {t : Declared.Kind} {new : List ℤ} {q : Result Found Refused} → ToldPlace bytes start stop (Ok c) → ToldAsked f kind (Ok t) → ToldRead (kind_of t) bytes c old new q
        → ReadsInto bytes start.0 stop.0 f kind old q new
    reads_placed (Places.at h) k x = record { reads = record { answer = Reading.reading h _ (was_asked k) x.fields; list = x.list }; counted = x.counted }

  -- ---- look-up and search

  pub looks_up_placed : {c : Cursor} {f : Family} {kind index : ℕ} {t : Declared.Kind} {x : Outcome ℤ} → ToldPlace bytes start stop (Ok c) → ToldAsked f kind (Ok t)
      → LookUp index (asked_for (kind_of t)) c.stop.0 (left c bytes) x → LooksUp bytes start.0 stop.0 f kind index x
  looks_up_placed (Places.at h) k y = Reading.reading h _ (was_asked k) y

  pub searches_placed : {c : Cursor} {sought : ℕ} {x : Outcome ℕ} → ToldPlace bytes start stop (Ok c) → Search sought (asked_for Kinds.Instants) c.stop.0 (left c bytes) x → Searches bytes start.0 stop.0 sought x
  searches_placed (Places.at h) y = Reading.reading h Kinds.Instants (record { number = refl; family = refl }) y

-- ---- the stream check

pub checks_all : {bytes : List ℕ} {c : Cursor} {x : Outcome (ℕ × ℕ)} → length bytes ≤ longest_buffer → c.at.0 ≡ 0 → c.stop.0 ≡ 8 * length bytes
    → Check c.stop.0 x (left c bytes) 0 0 → Checks bytes x
checks_all {bytes} {c} {x} h a b y =
    let all : left c bytes ≡ bits_of bytes = ap₂ (λ (i j : ℕ). window bytes i j) a b ∙ take_all (8 * length bytes) (bits_of bytes) (omega (arith, length_bits_of bytes)) in
    Reading.checked h (subst₂ (λ (n : ℕ) (w : List Bool). Check n x w 0 0) b all y)

pub checks_long : {bytes : List ℕ} → longest_buffer < length bytes → Checks bytes (refuses 12 0)
checks_long h = Reading.outside (λ k. omega arith)
