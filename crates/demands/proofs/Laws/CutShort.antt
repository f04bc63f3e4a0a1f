-- A record that is stopped early is cut short: demand 3 of the functions.
use Rattle.std.specs.Prelude.{◌≡◌, refl, Result, Ok, Err, Bool, List, [], ◌∷◌, ◌++◌, ℕ, ◌+◌, ◌-◌, ◌*◌, ◌≤◌, ◌<◌, ℤ, length, take, drop}
use Rattle.std.proofs.Common.{sym, ap, ◌∙◌, subst, subst₂, arith, length-drop, take-add, length-take-le}
use Rattle.std.proofs.lemmas.List.{drop-append-le}
use Rattle.layout.specs.Bits.{bits_of, window}
use Rattle.layout.proofs.Laws.Bits.{length_bits_of}
use Rattle.format.specs.Kinds.{Instants, kind_number, Family}
use Rattle.format.specs.Records.{any_record}
use Rattle.format.specs.Answers.{Outcome, refuses, Span}
use Rattle.format.specs.Reading.{Reads, LooksUp, Searches}
use Rattle.format.specs.Writing.{Writes}
use Rattle.format.proofs.Laws.Kinds.{kind_one}
use Rattle.format.proofs.Laws.Demand3.{stopped_read, stopped_look_up, stopped_search}
use Rattle.bits.specs.declared.BitPos.{BitPos}
use Rattle.reading.specs.declared.Refusal.TheVariants.{CutShort}
use Rattle.read_records.specs.Told.{item_of}
use Rattle.find_in_records.specs.Told.{looked_up, looked_up_correction, searched}
use Rattle.read_records.specs.Laws.Answers.{item_same}
use Rattle.find_in_records.specs.Laws.Answers.{looked_up_same, correction_same, searched_same}
use Rattle.reading.specs.declared.Refused.{Refused}
use Rattle.read_records.specs.declared.Found.{Found}
use Rattle.demands.specs.Calls.{Call}
use Rattle.read_entries.specs.Reads.{ReadsInto}
use Rattle.writing.specs.Wrote.{outcome_of}
use Rattle.demands.proofs.Laws.RoundTrip.{stands}
use Rattle.demands.proofs.Laws.InTurn.{Leaves, leaves}

-- ---- "a record that is stopped at any bit before its end, in a buffer and between positions that the limits allow": what stands there is a
-- proper beginning of the bits that a call has written

module _ (q : Call) (bytes : List ℕ) (start : ℕ) (p : BitPos) (after : List ℕ) (written : Writes bytes start q.family q.code q.parameter q.kind q.values (outcome_of (Ok p)) after)
    (s : List ℕ) (from stop : ℕ) (span : Span s from stop) (next : Bool) (more : List Bool) (begins : window after start p.0 ≡ window s from stop ++ next ∷ more) where
  one : Leaves q bytes start p.0 after
  one = leaves q bytes start p.0 after written

  begun : any_record.bits one.r ≡ window s from stop ++ next ∷ more
  begun =
      let told = one.bits.told in
      let inside = one.bits.inside in
      sym (stands bytes start p.0 after one.r (omega arith) one.bits) ∙ begins

  -- "is answered "cut short" and never with a list, if the reader was asked for that kind of list and has room for it"
  pub cut_read : (old new : List ℤ) (a : Result Found Refused) → length q.values ≤ length old → ReadsInto s from stop q.family q.kind old a new → (at : BitPos) × (a ≡ Err (record { why = CutShort; at = at })) × (new ≡ old)
  cut_read old new a room h =
      let t = one.asks.told in
      let k = one.asks.holds.values_are in
      let (b, e, l) = stopped_read one.r one.asks.valid s from stop span next more begun old new (subst (λ (vs : List ℤ). length vs ≤ length old) (sym k) room) (item_of a new)
      (subst₂ (λ (f : Family) (n : ℕ). Reads s from stop f n old (item_of a new) new) (sym t.family) (sym t.number) h.reads) in
      (record { 0 = b }, item_same a (Err (record { why = CutShort; at = record { 0 = b } })) new new h.counted tt e, l)

  looked : (place : ℕ) (x : Outcome ℤ) → LooksUp s from stop q.family q.kind place x → (b : ℕ) × (x ≡ refuses 6 b)
  looked place x h =
      let t = one.asks.told in
      stopped_look_up one.r one.asks.valid s from stop span next more begun place x (subst₂ (λ (f : Family) (n : ℕ). LooksUp s from stop f n place x) (sym t.family) (sym t.number) h)

  pub cut_look_up : (place : ℕ) (a : Result ℕ Refused) → LooksUp s from stop q.family q.kind place (looked_up a) → (at : BitPos) × (a ≡ Err (record { why = CutShort; at = at }))
  cut_look_up place a h = let (b, e) = looked place (looked_up a) h in (record { 0 = b }, looked_up_same a (Err (record { why = CutShort; at = record { 0 = b } })) e)

  pub cut_look_up_correction : (place : ℕ) (a : Result ℤ Refused) → LooksUp s from stop q.family q.kind place (looked_up_correction a) → (at : BitPos) × (a ≡ Err (record { why = CutShort; at = at }))
  cut_look_up_correction place a h = let (b, e) = looked place (looked_up_correction a) h in (record { 0 = b }, correction_same a (Err (record { why = CutShort; at = record { 0 = b } })) e)

  pub cut_search : q.kind ≡ kind_number Instants → (sought : ℕ) (a : Result ℕ Refused) → Searches s from stop sought (searched a) → (at : BitPos) × (a ≡ Err (record { why = CutShort; at = at }))
  cut_search k sought a h =
      let t : one.r.kind ≡ Instants = kind_one one.r.kind Instants (one.asks.told.number ∙ k) in
      let (b, e) = stopped_search one.r one.asks.valid s from stop span next more begun sought t (searched a) h in
      (record { 0 = b }, searched_same a (Err (record { why = CutShort; at = record { 0 = b } })) e)

-- the bits that a call has written, stopped earlier in the same buffer
some_left : (l : List Bool) → 0 < length l → (next : Bool) × (more : List Bool) × (l ≡ next ∷ more)
some_left [] h = absurd (omega arith)
some_left (b ∷ l) h = (b, l, refl)

pub stopped_earlier : (bytes : List ℕ) (start stop p : ℕ) → start ≤ stop → stop < p → p ≤ 8 * length bytes
    → (next : Bool) × (more : List Bool) × (window bytes start p ≡ window bytes start stop ++ next ∷ more)
stopped_earlier bytes start stop p h k i =
    let l : List Bool = bits_of bytes in
    let n = length_bits_of bytes in
    let z : p ≡ stop + (p - stop) = omega arith in
    let first = length-take-le stop l (omega arith) in
    let (next, more, e) = some_left (take (p - stop) (drop stop l)) (rest_length l (omega arith)) in (
      next,
      more,
      ap (λ (j : ℕ). drop start (take j l)) z ∙ ap (drop start) (take-add stop (p - stop) l) ∙ drop-append-le start (take stop l) (take (p - stop) (drop stop l)) (omega arith)
          ∙ ap (λ (x : List Bool). drop start (take stop l) ++ x) e,
    )
  where
    rest_length : (l : List Bool) → p ≤ length l → 0 < length (take (p - stop) (drop stop l))
    rest_length l g =
        let d = length-drop stop l in
        let t = length-take-le (p - stop) (drop stop l) (omega arith) in
        omega arith
