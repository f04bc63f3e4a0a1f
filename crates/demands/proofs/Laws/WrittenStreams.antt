-- Records written in turn and the end mark are a stream: it is checked, and read through to its end.
use Rattle.std.specs.Prelude.{◌≡◌, refl, Result, Ok, Bool, false, List, [], ◌∷◌, ◌++◌, ℕ, ◌+◌, ◌-◌, ◌*◌, ◌/◌, ◌≤◌, ℤ, length, take, drop}
use Rattle.std.proofs.Common.{sym, ap, ap₂, ◌∙◌, subst, subst₂, append_assoc, arith, length-append, take-append-drop, take_at, drop_at, drop-drop, take-take, length-take-le}
use Rattle.std.proofs.lemmas.List.{length-replicate}
use Rattle.std.proofs.Math.Seq.{length-slice}
use Rattle.layout.specs.Bits.{zeros, bits_of, put, window}
use Rattle.layout.specs.Layout.{row}
use Rattle.layout.proofs.Laws.Bits.{length_bits_of, bits_of_append}
use Rattle.layout.proofs.Laws.Windows.{put_both, length_put}
use Rattle.format.specs.Limits.{longest_buffer}
use Rattle.format.specs.Records.{Record, any_record}
use Rattle.format.specs.Streams.{end_mark, to_byte_end, stream, values_in}
use Rattle.format.specs.Answers.{gives, Start, Span}
use Rattle.format.specs.Reading as Reading
use Rattle.format.specs.Reading.{listed, Checks}
use Rattle.format.specs.Writing as Writing
use Rattle.format.specs.Writing.{end_image, WritesEnd}
use Rattle.format.proofs.Laws.Reading.{reads_one, checks_one}
use Rattle.format.proofs.Laws.Outcomes.{accepted_reads}
use Rattle.format.proofs.Laws.Streams.{stream_checks}
use Rattle.bits.specs.declared.BitPos.{BitPos}
use Rattle.reading.specs.declared.Refused.{Refused}
use Rattle.read_records.specs.Told.{item_of}
use Rattle.read_records.specs.Laws.Answers.{item_same}
use Rattle.read_records.specs.declared.Found.TheVariants as OfFound
use Rattle.read_streams.specs.Told.{checked}
use Rattle.read_streams.specs.Laws.Same.{checked_same}
use Rattle.read_streams.specs.declared.Checked.{Checked}
use Rattle.demands.specs.Calls.{Call, WrittenInTurn, values_of, ReadInTurn}
use Rattle.writing.specs.Wrote.{outcome_of}
use Rattle.demands.proofs.Laws.InTurn.{AskInTurn, InARow, in_a_row, all_valid}

-- ---- writes from bit 0, then the end mark: a stream

as_many : (qs : List Call) (rs : List Record) → AskInTurn qs rs → (length rs ≡ length qs) × (values_in rs ≡ values_of qs)
as_many [] [] a = (refl, refl)
as_many [] (r ∷ rs) a = absurd a
as_many (q ∷ qs) [] a = absurd a
as_many (q ∷ qs) (r ∷ rs) a =
    let (m, n) = as_many qs rs a.1 in
    let k = ap length a.0.holds.values_are in
    (omega arith, omega arith)

-- what the end writer leaves
record Ended (bytes : List ℕ) (start e : ℕ) (after : List ℕ) : Type 0 where
  told : e ≡ start + length (end_image start)
  left : bits_of after ≡ put (bits_of bytes) start (end_image start)
  size : length after ≡ length bytes
  inside : e ≤ 8 * length bytes
  place : Start bytes start

ended : (bytes : List ℕ) (start e : ℕ) (after : List ℕ) → WritesEnd bytes start (gives e) after → Ended bytes start e after
ended bytes start e after (Writing.writing place (Writing.done room b w)) =
    let i = place.inside in
    let n = length_bits_of bytes in
    let m = length_bits_of after in
    let l = ap length w ∙ length_put (bits_of bytes) start (end_image start) (omega arith) in
    record { told = refl; left = w; size = omega arith; inside = omega arith; place = place }

-- the bits of a buffer's first bytes
bits_front : (n : ℕ) (s : List ℕ) → n ≤ length s → bits_of (take n s) ≡ take (8 * n) (bits_of s)
bits_front n s h =
    let k : length (bits_of (take n s)) ≡ 8 * n = length_bits_of (take n s) ∙ ap (λ (m : ℕ). 8 * m) (length-take-le n s h) in
    sym (take_at (bits_of (take n s)) (bits_of (drop n s)) (8 * n) k) ∙ ap (take (8 * n)) (sym (bits_of_append (take n s) (drop n s)) ∙ ap bits_of (take-append-drop n s))

put_front : (l new : List Bool) (k : ℕ) → length new ≡ k → take k (put l 0 new) ≡ new
unfolding put
put_front l new k e = take_at new (drop (0 + length new) l) k e

put_parts : (l a b c : List Bool) → put l 0 (a ++ (b ++ c)) ≡ (a ++ b) ++ (c ++ drop (0 + length (a ++ (b ++ c))) l)
unfolding put
put_parts l a b c = let r : List Bool = drop (0 + length (a ++ (b ++ c))) l in ap (λ (x : List Bool). x ++ r) (sym (append_assoc a b c)) ∙ append_assoc (a ++ b) c r

-- records and the end mark stand between two bits of a buffer
module _ (bytes : List ℕ) (stop : ℕ) where
  in_turn : (qs : List Call) (rs : List Record) → AskInTurn qs rs → (at : ℕ) → Span bytes at stop → (rest : List Bool) → window bytes at stop ≡ row any_record rs ++ (end_mark ++ rest) → ReadInTurn bytes stop qs at
  in_turn [] [] a at span rest e =
      λ f kind t told old new r h.
      let order = span.order in
      let inside = span.inside in
      let whole = length-slice at stop (bits_of bytes) (rw length_bits_of inside) in
      let parts = ap length e ∙ length-append end_mark rest in
      let p : at + 4 ≡ stop - length rest = omega arith in
      let (x, y) = reads_one bytes at stop f kind old (item_of r new) (gives (Reading.ended (at + 4))) new old h.reads (record { answer = Reading.reading span t told (Reading.ends e p); list = refl }) in
      (item_same r (Ok (OfFound.End (record { 0 = at + 4 }))) new new h.counted tt x, y)
  in_turn [] (r ∷ rs) a at span rest e = absurd a
  in_turn (q ∷ qs) [] a at span rest e = absurd a
  in_turn (q ∷ qs) (r ∷ rs) a at span rest e =
      let image : List Bool = any_record.bits r in
      let later : List Bool = row any_record rs ++ (end_mark ++ rest) in
      let p : ℕ = at + length image in
      let order = span.order in
      let inside = span.inside in
      let front : window bytes at stop ≡ image ++ later = e ∙ append_assoc image (row any_record rs) (end_mark ++ rest) in
      let whole = length-slice at stop (bits_of bytes) (rw length_bits_of inside) in
      let parts = ap length front ∙ length-append image later in
      let told : p ≡ stop - length later = omega arith in
      let same = a.0.holds.values_are in
      let next : window bytes p stop ≡ later = sym (drop-drop (length image) at (take stop (bits_of bytes))) ∙ ap (drop (length image)) front ∙ drop_at image later (length image) refl in (
        p,
        (λ old new b room h.
            let fits : length r.values ≤ length old = subst (λ (vs : List ℤ). length vs ≤ length old) (sym same) room in
            let (x, y) = reads_one bytes at stop q.family q.kind old (item_of b new) (gives (listed r p)) new (r.values ++ drop (length r.values) old) h.reads
            (accepted_reads bytes at stop q.family q.kind old r p (r.values ++ drop (length r.values) old)
            (record { span = span; told = a.0.told; valid = a.0.valid; room = fits; rest = later; front = front; next = told; list = refl })) in
            record { entry = r; holds = a.0.holds; answer = x; list = y ∙ ap (λ (vs : List ℤ). vs ++ drop (length vs) old) same }),
        in_turn qs rs a.1 p (record { small = span.small; order = omega arith; inside = inside }) rest next,
      )

module _ {qs : List Call} {bytes middle : List ℕ} {next : ℕ} (written : WrittenInTurn qs bytes 0 middle next) (end : BitPos) (after : List ℕ) (mark : WritesEnd middle next (outcome_of (Ok end)) after) where
  in_front : InARow qs bytes 0 middle next
  in_front = in_a_row written

  abbrev image : List Bool
  image = row any_record in_front.rs

  marked : Ended middle next end.0 after
  marked = ended middle next end.0 after mark

  all_left : bits_of after ≡ put (bits_of bytes) 0 (image ++ end_image next)
  all_left =
      put_both (bits_of bytes) image (end_image next) 0 (length image) (omega arith) refl in_front.left (marked.left ∙ ap (λ (k : ℕ). put (bits_of middle) k (end_image next)) in_front.told)

  -- the check of exactly the bytes up to the told bit gives the numbers of records and of values
  pub check_written : (a : Result Checked Refused) → Checks (take (end.0 / 8) after) (checked a) → a ≡ Ok (record { records = length qs; values = values_of qs })
  check_written a h =
      let told = in_front.told in
      let pad : ℕ = to_byte_end (next + 4) in
      let z : length (zeros pad) ≡ pad = length-replicate pad false in
      let four : length end_mark ≡ 4 = length-replicate 4 false in
      let both = length-append end_mark (zeros pad) in
      let end-told = marked.told in
      let end-inside = marked.inside in
      let size = marked.size in
      let total : end.0 ≡ 8 * (end.0 / 8) = omega arith in
      let lengths = length-append image (end_image next) in
      let before-pad = length-append image end_mark in
      let to-mark : next + 4 ≡ length (image ++ end_mark) = omega arith in
      let bits : bits_of (take (end.0 / 8) after) ≡ stream in_front.rs =
      bits_front (end.0 / 8) after (omega arith)
      ∙ ap₂ (λ (k : ℕ) (l : List Bool). take k l) (sym total) all_left
      ∙ put_front (bits_of bytes) (image ++ end_image next) end.0 (omega arith)
      ∙ sym (append_assoc image end_mark (zeros pad))
      ∙ ap (λ (k : ℕ). (image ++ end_mark) ++ zeros (to_byte_end k)) to-mark in
      let (records, values) = as_many qs in_front.rs in_front.asked in
      let small = marked.place.small in
      let short : length (take (end.0 / 8) after) ≤ longest_buffer = let k = length-take-le (end.0 / 8) after (omega arith) in omega arith in
      checked_same a (Ok (record { records = length qs; values = values_of qs }))
      (checks_one (take (end.0 / 8) after) (checked a) (gives (length qs, values_of qs)) h
      (subst₂ (λ (i j : ℕ). Checks (take (end.0 / 8) after) (gives (i, j))) records values
      (stream_checks in_front.rs (take (end.0 / 8) after) (all_valid qs in_front.rs in_front.asked) short bits)))

  -- and reading goes through them one by one up to the end mark, with any stop after it
  pub read_written : (stop : ℕ) → next + 4 ≤ stop → stop ≤ 8 * length after → ReadInTurn after stop qs 0
  read_written stop h k =
      let l : List Bool = bits_of after in
      let told = in_front.told in
      let four : length end_mark ≡ 4 = length-replicate 4 false in
      let before-pad = length-append image end_mark in
      let to-mark : length (image ++ end_mark) ≡ next + 4 = omega arith in
      let front : take (next + 4) (take stop l) ≡ image ++ end_mark =
      take-take (next + 4) stop l h
      ∙ ap (take (next + 4)) (all_left ∙ put_parts (bits_of bytes) image end_mark (zeros (to_byte_end (next + 4))))
      ∙ take_at (image ++ end_mark) _ (next + 4) to-mark in
      let rest : List Bool = drop (next + 4) (take stop l) in
      let small = marked.place.small in
      let size = marked.size in
      in_turn after stop qs in_front.rs in_front.asked 0 (record { small = omega arith; order = omega arith; inside = k }) rest
      (sym (take-append-drop (next + 4) (take stop l)) ∙ ap (λ (x : List Bool). x ++ rest) front ∙ append_assoc image end_mark rest)
