-- What was written is read back, and what was read, written again with the told heading, gives the same bits.
use Rattle.std.specs.Prelude.{◌≡◌, refl, Result, Ok, Bool, List, ◌++◌, ℕ, ◌+◌, ◌-◌, ◌*◌, ◌≤◌, ℤ, length, take, drop}
use Rattle.std.proofs.Common.{sym, ap, ◌∙◌, arith, length-append, take-add, drop_at, take_at, length-take-le}
use Rattle.std.proofs.Math.Seq.{length-slice}
use Rattle.layout.specs.Bits.{bits_of, window}
use Rattle.layout.proofs.Laws.Bits.{length_bits_of}
use Rattle.layout.proofs.Laws.Windows.{put_window, window_front}
use Rattle.format.specs.Kinds.{Family}
use Rattle.format.specs.Records.{Record, code_number, any_record}
use Rattle.format.specs.Answers.{gives}
use Rattle.format.specs.Reading.{listed}
use Rattle.format.specs.Writing.{Writes}
use Rattle.format.specs.Restated.{Holds, WrittenBits, Accepted}
use Rattle.format.proofs.Laws.Reading.{reads_one}
use Rattle.format.proofs.Laws.Outcomes.{reads_accepted}
use Rattle.format.proofs.Laws.Round.{written_bits, reads_back}
use Rattle.bits.specs.declared.BitPos.{BitPos}
use Rattle.headings.specs.Headings.{code_of, carried, headed}
use Rattle.headings.specs.declared.Heading.{Heading}
use Rattle.read_records.specs.Told.{item_of}
use Rattle.reading.specs.declared.Refused.{Refused}
use Rattle.read_records.specs.declared.Found.{Found}
use Rattle.read_records.specs.declared.Found.TheVariants as OfFound
use Rattle.read_entries.specs.Reads.{ReadsInto}
use Rattle.demands.specs.Calls.{Back}

-- ---- read after write: the list comes back, equal instants as two, with code, kind and parameter, 0 where the code has none

pub read_back : (bytes : List ℕ) (start : ℕ) (f : Family) (code parameter kind : ℕ) (values : List ℤ) (p : ℕ) (after : List ℕ) → Writes bytes start f code parameter kind values (gives p) after
    → (old new : List ℤ) (r : Result Found Refused) → length values ≤ length old → ReadsInto after start p f kind old r new → Back code parameter kind values old p r new
read_back bytes start f code parameter kind values p after w old new r room x =
    let b = reads_back bytes start f code parameter kind values p after old w room in
    let (e, g) = reads_one after start p f kind old (item_of r new) (gives (listed b.entry p)) new (values ++ drop (length values) old) x.reads b.reads in
    record { entry = b.entry; holds = b.holds; answer = e; list = g }

-- ---- write after read

-- the bits that stand in a buffer from start on, up to the bit after them
between : (bytes : List ℕ) (start stop p : ℕ) (image rest : List Bool) → start ≤ stop → stop ≤ 8 * length bytes → window bytes start stop ≡ image ++ rest → p ≡ stop - length rest → window bytes start p ≡ image
between bytes start stop p image rest h k e q =
    let n = length-slice start stop (bits_of bytes) (rw length_bits_of k) in
    let m = ap length e ∙ length-append image rest in
    let z : p ≡ start + length image = omega arith in
    let l : start ≤ length (bits_of bytes) = rw length_bits_of (omega arith) in
    ap (λ (i : ℕ). drop start (take i (bits_of bytes))) z
    ∙ ap (drop start) (take-add start (length image) (bits_of bytes))
    ∙ drop_at (take start (bits_of bytes)) (take (length image) (drop start (bits_of bytes))) start (length-take-le start (bits_of bytes) l)
    ∙ sym (window_front (bits_of bytes) start (length image) stop (omega arith))
    ∙ ap (take (length image)) e
    ∙ take_at image rest (length image) refl

pub stands : (bytes : List ℕ) (start p : ℕ) (after : List ℕ) (r : Record) → start ≤ 8 * length bytes → WrittenBits bytes start r p after → window after start p ≡ any_record.bits r
stands bytes start p after r h w =
    ap (λ (i : ℕ). window after start i) w.told
    ∙ ap (λ (l : List Bool). drop start (take (start + length (any_record.bits r)) l)) w.left
    ∙ put_window (bits_of bytes) start (any_record.bits r) (omega (arith, length_bits_of bytes, w.told, w.inside))

module _ {bytes : List ℕ} {start stop : ℕ} {f : Family} {kind : ℕ} {old new : List ℤ} {h : Heading} {n : ℕ} {p : BitPos} (x : ReadsInto bytes start stop f kind old (Ok (OfFound.Record h n p)) new) where
  told_record : Accepted bytes start stop f kind old (headed h (take n new)) p.0 new
  told_record = reads_accepted bytes start stop f kind old (headed h (take n new)) p.0 new x.reads

  pub written_again : (bytes' : List ℕ) (start' p' : ℕ) (after : List ℕ) → Writes bytes' start' f (code_number (code_of h.code)) (carried h.code) kind (take n new) (gives p') after
      → window after start' p' ≡ window bytes start p.0
  written_again bytes' start' p' after w =
      let r : Record = headed h (take n new) in
      let a = told_record in
      let held : Holds r (code_number (code_of h.code)) (carried h.code) kind (take n new) = record { code_is = refl; kind_is = a.told.number; parameter_is = (λ e. refl, a.valid.parameter.1); values_are = refl } in
      let b = written_bits bytes' start' f (code_number (code_of h.code)) (carried h.code) kind (take n new) p' after w r held in
      stands bytes' start' p' after r (omega (arith, b.told, b.inside)) b
      ∙ sym (between bytes start stop p.0 (any_record.bits r) a.rest a.span.order a.span.inside a.front a.next)
