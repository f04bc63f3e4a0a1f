-- Demand 3, over valid records of all kinds mixed.
use Rattle.std.specs.Prelude.{◌≡◌, refl, Bool, List, [], ◌∷◌, ◌++◌, ℕ, ◌+◌, ◌*◌, ◌≤◌, ℤ, length}
use Rattle.std.proofs.Common.{sym, ap, ◌∙◌, subst, append_assoc, append-nil}
use Rattle.layout.specs.Bits.{bits_of, window}
use Rattle.layout.specs.Layout.{row, All}
use Rattle.layout.proofs.Laws.Rows.{all_map, row_begins}
use Rattle.format.specs.Limits.{longest_buffer}
use Rattle.format.specs.Kinds.{Instants, kind_number, family_of}
use Rattle.format.specs.Records.{Record, Valid, This, Wants, Asked, record_for, anyone, any_record}
use Rattle.format.specs.Answers.{Outcome, refuses, Span, told_bit}
use Rattle.format.specs.Reading as Reading
use Rattle.format.specs.Reading.{reading, Item, NoEnd, Reads, LooksUp, Searches, asked_for, Check, Checks}
use Rattle.format.proofs.Laws.Records.{record_sound, valid_ok, valid_any}
use Rattle.format.proofs.Laws.Marks.{record_bits, record_no_end, record_some}
use Rattle.format.proofs.Laws.Reading.{reads_one, looks_up_one, searches_one, checks_one}

-- "If the bits of the first sequence are the beginning of the bits of the second, then the records of the first are the first records of
-- the second, in code, kind, parameter, number, order and every value."
pub first_records : (rs ss : List Record) (x : List Bool) → All Valid rs → All Valid ss → row any_record ss ≡ row any_record rs ++ x → (more : List Record) × (ss ≡ rs ++ more)
first_records rs ss x h l = row_begins (record_sound anyone) (λ r v. record_some anyone r) rs ss x (all_map valid_any rs h) (all_map valid_any ss l)

-- "a record that is stopped at any bit before its end, in a buffer and between positions that the limits allow, is answered "cut short"
-- and never with a list, if the reader was asked for that kind of list and has room for it"
module _ (r : Record) (v : Valid r) (w : List Bool) (next : Bool) (more : List Bool) (stopped : any_record.bits r ≡ w ++ next ∷ more) where
  no_end : NoEnd w
  no_end y e = record_no_end anyone r [] (y ++ next ∷ more) (append-nil _ ∙ stopped ∙ ap (λ (l : List Bool). l ++ next ∷ more) e)

  -- whoever asks for its kind, with room for it
  cut_short : (q : Asked) → Wants q.wanted r.kind → length r.values ≤ q.room → (u : List Bool) × (record_for q).no w 6 u
  cut_short q wants room = (record_sound q).stopped (record { of = r; valid = valid_ok q r v wants room; next = next; more = more; whole = record_bits q anyone r ∙ stopped })

  -- after any records, in a stream
  row_stopped : (stop : ℕ) (rs : List Record) (records values : ℕ) → All Valid rs → (p : ℕ) × Check stop (refuses 6 p) (row any_record rs ++ w) records values
  row_stopped stop [] records values h = let (u, n) = cut_short anyone tt v.count in (told_bit stop u, Reading.fails u no_end n refl)
  row_stopped stop (s ∷ rs) records values h =
      let (p, k) = row_stopped stop rs (records + 1) (values + length s.values) h.1 in
      (p, Reading.goes_on (record { valid = valid_any s h.0; front = append_assoc (any_record.bits s) (row any_record rs) w }) k)

  pub stopped_check : (bytes : List ℕ) (rs : List Record) → All Valid rs → length bytes ≤ longest_buffer → bits_of bytes ≡ row any_record rs ++ w
      → (x : Outcome (ℕ × ℕ)) → Checks bytes x → (p : ℕ) × (x ≡ refuses 6 p)
  stopped_check bytes rs h l e x k =
      let (p, c) = row_stopped (8 * length bytes) rs 0 0 h in
      (p, checks_one bytes x (refuses 6 p) k (Reading.checked l (subst (λ (b : List Bool). Check (8 * length bytes) (refuses 6 p) b 0 0) (sym e) c)))

module _ (r : Record) (v : Valid r) (bytes : List ℕ) (start stop : ℕ) (span : Span bytes start stop)
    (next : Bool) (more : List Bool) (stopped : any_record.bits r ≡ window bytes start stop ++ next ∷ more) where
  pub stopped_read : (old new : List ℤ) → length r.values ≤ length old → (x : Outcome Item) → Reads bytes start stop (family_of r.kind) (kind_number r.kind) old x new
      → (p : ℕ) × (x ≡ refuses 6 p) × (new ≡ old)
  stopped_read old new h x k =
      let (u, n) = cut_short r v _ next more stopped (record { wanted = This r.kind; room = length old }) refl h in
      let (e, l) = reads_one bytes start stop (family_of r.kind) (kind_number r.kind) old x (refuses 6 (told_bit stop u)) new old k
      (record { answer = reading span r.kind (record { number = refl; family = refl }) (Reading.fails u (no_end r v _ next more stopped) n refl); list = refl }) in
      (told_bit stop u, e, l)

  pub stopped_look_up : (place : ℕ) (x : Outcome ℤ) → LooksUp bytes start stop (family_of r.kind) (kind_number r.kind) place x → (p : ℕ) × (x ≡ refuses 6 p)
  stopped_look_up place x k =
      let (u, n) = cut_short r v _ next more stopped (asked_for r.kind) refl v.count in (
        told_bit stop u,
        looks_up_one bytes start stop (family_of r.kind) (kind_number r.kind) place x (refuses 6 (told_bit stop u)) k
            (reading span r.kind (record { number = refl; family = refl }) (Reading.fails u n refl)),
      )

  pub stopped_search : (sought : ℕ) → r.kind ≡ Instants → (x : Outcome ℕ) → Searches bytes start stop sought x → (p : ℕ) × (x ≡ refuses 6 p)
  stopped_search sought e x k =
      let (u, n) = cut_short r v _ next more stopped (asked_for Instants) e v.count in (
        told_bit stop u,
        searches_one bytes start stop sought x (refuses 6 (told_bit stop u)) k
            (reading span Instants (record { number = refl; family = refl }) (Reading.fails u n refl)),
      )
