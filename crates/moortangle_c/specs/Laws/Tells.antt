-- What an entry's contract comes to at the boundary, and that it leaves an exported function no choice.
use Rattle.std.specs.Prelude.{◌≡◌, Result, Ok, Err, List, map, ℕ, ℤ, pos, take}
use Rattle.std.proofs.Common.{sym, ap, ◌∙◌, subst, subst₂, arith, length-take-le}
use Rattle.format.specs.Kinds.{Family, Unsigned, Signed}
use Rattle.format.specs.Answers.{Outcome}
use Rattle.format.specs.Reading.{Item, Reads, LooksUp, Searches, Checks}
use Rattle.format.specs.Writing.{Writes, WritesEnd}
use Rattle.format.proofs.Laws.Reading.{reads_one, looks_up_one, searches_one, checks_one}
use Rattle.format.proofs.Laws.Writing.{writes_one, writes_end_one}
use Rattle.format.proofs.Laws.Outcomes.{reads_accepted}
use Rattle.headings.specs.Headings.{headed}
use Rattle.reading.specs.Laws.Naturals.{naturals_one}
use Rattle.reading.specs.declared.Refused.{Refused}
use Rattle.read_records.specs.declared.Found.{Found}
use Rattle.read_records.specs.declared.Found.TheVariants as OfFound
use Rattle.read_entries.specs.Reads.{ReadsInto}
use Rattle.flat_answers.specs.Flat.{flat_written, flat_record, flat_value, flat_correction, flat_place, flat_stream}
use Rattle.flat_answers.specs.Reads.{FewValues, flat_read}
use Rattle.flat_answers.specs.Laws.Flat.{flat_item}
use Rattle.moortangle_c.specs.Tells.{Tells}
use Rattle.flat_answers.specs.declared.Written.{Written}
use Rattle.flat_answers.specs.declared.Record.{Record}
use Rattle.flat_answers.specs.declared.Value.{Value}
use Rattle.flat_answers.specs.declared.Correction.{Correction}
use Rattle.flat_answers.specs.declared.Place.{Place}
use Rattle.flat_answers.specs.declared.Stream.{Stream}

-- ---- an entry is given each position as one that has this number

pub tells_at : {A R : Type 0} (flat : Outcome A → R) (Right : ℕ → Outcome A → Type 0) {given start : ℕ} {x : Outcome A} {r : R} → given ≡ start → Right given x → r ≡ flat x → Tells flat (Right start) r
tells_at flat Right {x = x} e h f = record { outcome = x; right = subst (λ (n : ℕ). Right n x) e h; flattened = f }

pub tells_between : {A R : Type 0} (flat : Outcome A → R) (Right : ℕ → ℕ → Outcome A → Type 0) {given start upto stop : ℕ} {x : Outcome A} {r : R}
    → given ≡ start → upto ≡ stop → Right given upto x → r ≡ flat x → Tells flat (Right start stop) r
tells_between flat Right {x = x} e g h f = record { outcome = x; right = subst₂ (λ (n m : ℕ). Right n m x) e g h; flattened = f }

-- ---- a record has no more values than a list may have

module _ {bytes : List ℕ} {start stop : ℕ} {f : Family} {kind : ℕ} {old : List ℤ} where
  pub few_values : {r : Result Found Refused} {new : List ℤ} → ReadsInto bytes start stop f kind old r new → FewValues r
  few_values {r = Ok (OfFound.Record h n p)} {new = new} x =
      let a = reads_accepted bytes start stop f kind old (headed h (take n new)) p.0 new x.reads in
      omega (arith, length-take-le n new x.counted, a.valid.count)
  few_values {r = Ok (OfFound.End p)} x = tt
  few_values {r = Err r} x = tt

  -- what a reader made of the positions with these numbers, flattened, is what C is told
  pub reads_tell : {from upto : ℕ} {new : List ℤ} {r : Result Found Refused} {q : Record} → start ≡ from → stop ≡ upto → ReadsInto bytes start stop f kind old r new → q ≡ flat_read r
      → Tells flat_record (λ x. Reads bytes from upto f kind old x new) q
  reads_tell {new = new} {r = r} e g x h =
      tells_between flat_record (λ (n m : ℕ) (y : Outcome Item). Reads bytes n m f kind old y new) e g x.reads (h ∙ flat_item r new x.counted)

-- ---- where a contract has one outcome, C gets one answer, and what is lent ends in one way

tells_one : {A R M : Type 0} (flat : Outcome A → R) (Right : Outcome A → M → Type 0) → ((x y : Outcome A) (a b : M) → Right x a → Right y b → (x ≡ y) × (a ≡ b))
    → (r s : R) (a b : M) → Tells flat (λ x. Right x a) r → Tells flat (λ x. Right x b) s → (r ≡ s) × (a ≡ b)
tells_one flat Right one r s a b x y =
    let (e, g) = one x.outcome y.outcome a b x.right y.right in
    (x.flattened ∙ ap flat e ∙ sym y.flattened, g)

-- the same where nothing is lent to be written
answer_one : {A R : Type 0} (flat : Outcome A → R) (Right : Outcome A → Type 0) → ((x y : Outcome A) → Right x → Right y → x ≡ y) → (r s : R) → Tells flat Right r → Tells flat Right s → r ≡ s
answer_one flat Right one r s x y = x.flattened ∙ ap flat (one x.outcome y.outcome x.right y.right) ∙ sym y.flattened

module _ (bytes : List ℕ) (start : ℕ) (r s : Written) (after after' : List ℕ) where
  pub write_tells_one : (f : Family) (code parameter kind : ℕ) (values : List ℤ)
      → Tells flat_written (λ x. Writes bytes start f code parameter kind values x after) r → Tells flat_written (λ x. Writes bytes start f code parameter kind values x after') s → (r ≡ s) × (after ≡ after')
  write_tells_one f code parameter kind values = tells_one flat_written (Writes bytes start f code parameter kind values) (writes_one bytes start f code parameter kind values) r s after after'

  pub write_end_tells_one : Tells flat_written (λ x. WritesEnd bytes start x after) r → Tells flat_written (λ x. WritesEnd bytes start x after') s → (r ≡ s) × (after ≡ after')
  write_end_tells_one = tells_one flat_written (WritesEnd bytes start) (writes_end_one bytes start) r s after after'

module _ (bytes : List ℕ) (start stop : ℕ) where
  pub read_corrections_tells_one : (kind : ℕ) (old new new' : List ℤ) (r s : Record)
      → Tells flat_record (λ x. Reads bytes start stop Signed kind old x new) r → Tells flat_record (λ x. Reads bytes start stop Signed kind old x new') s → (r ≡ s) × (new ≡ new')
  read_corrections_tells_one kind old new new' r s = tells_one flat_record (Reads bytes start stop Signed kind old) (reads_one bytes start stop Signed kind old) r s new new'

  pub read_tells_one : (kind : ℕ) (old new new' : List ℕ) (r s : Record)
      → Tells flat_record (λ x. Reads bytes start stop Unsigned kind (map pos old) x (map pos new)) r → Tells flat_record (λ x. Reads bytes start stop Unsigned kind (map pos old) x (map pos new')) s → (r ≡ s) × (new ≡ new')
  read_tells_one kind old new new' r s x y =
      let (e, g) = tells_one flat_record (Reads bytes start stop Unsigned kind (map pos old)) (reads_one bytes start stop Unsigned kind (map pos old)) r s (map pos new) (map pos new') x y in
      (e, naturals_one new new' g)

  pub look_up_tells_one : (f : Family) (kind place : ℕ) (r s : Value) → Tells flat_value (LooksUp bytes start stop f kind place) r → Tells flat_value (LooksUp bytes start stop f kind place) s → r ≡ s
  look_up_tells_one f kind place = answer_one flat_value (LooksUp bytes start stop f kind place) (looks_up_one bytes start stop f kind place)

  pub correction_tells_one : (f : Family) (kind place : ℕ) (r s : Correction) → Tells flat_correction (LooksUp bytes start stop f kind place) r → Tells flat_correction (LooksUp bytes start stop f kind place) s → r ≡ s
  correction_tells_one f kind place = answer_one flat_correction (LooksUp bytes start stop f kind place) (looks_up_one bytes start stop f kind place)

  pub search_tells_one : (sought : ℕ) (r s : Place) → Tells flat_place (Searches bytes start stop sought) r → Tells flat_place (Searches bytes start stop sought) s → r ≡ s
  search_tells_one sought = answer_one flat_place (Searches bytes start stop sought) (searches_one bytes start stop sought)

pub check_tells_one : (bytes : List ℕ) (r s : Stream) → Tells flat_stream (Checks bytes) r → Tells flat_stream (Checks bytes) s → r ≡ s
check_tells_one bytes = answer_one flat_stream (Checks bytes) (checks_one bytes)
