-- Going on in a stream, and what its end or a failing record comes to.
use Rattle.std.specs.Prelude.{◌≡◌, refl, Ok, Err, List, ℕ, ◌+◌, ◌-◌, ◌≤◌, ◌<◌, ℤ, length, take, drop}
use Rattle.std.proofs.Common.{sym, ap, ap₂, ◌∙◌, subst, le_refl, mod-eq_of_lt, pow_pos, arith, take_all}
use Rattle.layout.specs.Bits.{bits_of, in_bits}
use Rattle.layout.specs.Layout.{Layout}
use Rattle.layout.specs.Laws.Bits.{val}
use Rattle.layout.proofs.Laws.Bits.{in_bits_val, in_bits_zero, val_in_bits}
use Rattle.format.specs.Records.{anyone, any_record}
use Rattle.format.specs.Answers.{refuses, gives, told_bit}
use Rattle.format.specs.Reading as Reading
use Rattle.format.specs.Reading.{NoEnd, Padding, Check}
use Rattle.format.proofs.Laws.Marks.{takes_shorter}
use Rattle.bits.specs.Cursor.{Within, left, to, Taken, Refuses}
use Rattle.bits.specs.Laws.Cursor.{length_left, left_front}
use Rattle.bits.specs.declared.BitPos.{BitPos}
use Rattle.bits.specs.declared.Cursor.{Cursor}
use Rattle.headings.specs.declared.Heading.{Heading}
use Rattle.reading.specs.Laws.Steps.{told_at, at_bit}
use Rattle.read_headings.specs.Told.{body_of, Headed, Ended}
use Rattle.reading.specs.Refusals.{refusal_number}
use Rattle.reading.specs.declared.Refused.{Refused}
use Rattle.read_bodies.specs.Laws.Bodies.{counted_values}
use Rattle.read_streams.specs.Streams.{Passing}
use Rattle.read_streams.specs.Told as Told
use Rattle.read_streams.specs.Told.{ToldPassed}

pub passing_none : (s : List ℕ) (start : Cursor) → Within start (length s) → Passing s start start 0 0
passing_none s start w = record { within = w; stop = refl; whole = λ x k. k; few = omega arith; small = omega arith }

module _ {s : List ℕ} {start c : Cursor} {records values : ℕ} (h : Passing s start c records values) where
  -- one record more, which has bits of its own
  pub passing_more : {g : Heading} {n : ℕ} {d e : Cursor} {vs : List ℤ} → Headed anyone s c g n d → Taken (body_of g n) s d vs e
      → Passing s start e (records + 1) (values + n) × (e.stop.0 - e.at.0 < c.stop.0 - c.at.0)
  passing_more {g} {n} {e = e} {vs = vs} r t =
      let k = r.reached.then vs e t in
      let short = takes_shorter anyone k.takes in
      let a = length_left s c h.within in
      let b = length_left s e k.within in
      let f : e.stop.0 ≡ c.stop.0 = ap (λ (p : BitPos). p.0) k.stop in
      let many = counted_values r.legal t in
      let w = k.within.order in (
        record {
          within = k.within;
          stop = k.stop ∙ h.stop;
          whole = λ x u. h.whole x (Reading.goes_on k.takes (subst (λ (m : ℕ). Check start.stop.0 x (left e s) (records + 1) (values + m)) (sym many) u));
          few = omega (arith, h.few);
          small = omega (arith, h.small, r.legal.count);
        },
        omega arith,
      )

  pub stream_no : {n : ℕ} {p : BitPos} → NoEnd (left c s) → Refuses any_record s c n p → Check start.stop.0 (refuses n p.0) (left start s) 0 0
  stream_no {n} {p} m r =
      let e : p.0 ≡ told_bit start.stop.0 (left (to c p) s) = told_at s c p h.within r.upto ∙ ap (λ (q : BitPos). told_bit q.0 (left (to c p) s)) h.stop in
      h.whole _ (Reading.fails (left (to c p) s) m r.no (ap (refuses n) e))

  module _ {d : Cursor} (e : Ended s c d) where
    mark_at : d.at.0 ≡ told_bit start.stop.0 (left d s)
    mark_at = at_bit s start d e.within (e.stop ∙ h.stop)

    pub stream_unclean : {p : BitPos} → (Padding (left d s) → ⊥) → p ≡ d.at → Check start.stop.0 (refuses 11 p.0) (left start s) 0 0
    stream_unclean k f = h.whole _ (Reading.unclean e.mark k (ap (refuses 11) (ap (λ (q : BitPos). q.0) f ∙ mark_at)))

    pub stream_ends : Padding (left d s) → Check start.stop.0 (gives (records, values)) (left start s) 0 0
    stream_ends p = h.whole _ (Reading.ends e.mark p refl)

-- ---- what stands after an end mark

module _ (s : List ℕ) (c : Cursor) (w : Within c (length s)) where
  pub padding_long : 7 < c.stop.0 - c.at.0 → Padding (left c s) → ⊥
  padding_long h p = omega (arith, p.0, length_left s c w)

  module _ (n at m : ℕ) (a : at ≡ c.at.0) (b : m ≡ c.stop.0 - c.at.0) (e : n ≡ val (take m (drop at (bits_of s)))) where
    left_val : n ≡ val (left c s)
    left_val =
        e
        ∙ ap₂ (λ (i j : ℕ). val (take i (drop j (bits_of s)))) b a
        ∙ ap val (sym (left_front s c w (c.stop.0 - c.at.0) (le_refl _)) ∙ take_all (c.stop.0 - c.at.0) (left c s) (omega (arith, length_left s c w)))

    pub padding_zero : m ≤ 7 → n ≡ 0 → Padding (left c s)
    padding_zero h z = (
      omega (arith, length_left s c w),
      sym (in_bits_val (left c s)) ∙ ap (in_bits (length (left c s))) (sym left_val ∙ z) ∙ in_bits_zero (length (left c s)),
    )

    pub padding_one : Padding (left c s) → n ≡ 0
    padding_one p =
        let k = length (left c s) in
        left_val ∙ ap val (p.1 ∙ sym (in_bits_zero k)) ∙ val_in_bits k 0 ∙ mod-eq_of_lt (pow_pos k)

-- ---- a body that was passed

module _ {L : Layout (List ℤ)} {s : List ℕ} {c : Cursor} where
  pub was_after : {d : Cursor} → ToldPassed L s c (Ok d) → (vs : List ℤ) × Taken L s c vs d
  was_after (Told.after vs t) = (vs, t)

  pub was_not_passed : {r : Refused} → ToldPassed L s c (Err r) → Refuses L s c (refusal_number r.why) r.at
  was_not_passed (Told.no k) = k
