-- Laws of drawing with a pen.
use Rattle.std.specs.Prelude.{◌≡◌, Bool, false, ℕ, ◌+◌, ◌-◌, ◌*◌, ◌/◌, ◌%◌, ◌^◌, ◌≤◌, ◌<◌, take}
use Rattle.std.proofs.Math.Path.{refl, sym, ap, ap₂, subst}
use Rattle.std.proofs.Common.{◌∙◌, mod-lt, mod-eq_of_lt, lt_of_lt_of_le, pow_pos, pow-add, pow_mono, length-append, length-drop, take-append-drop, drop-drop}
use mathlib.Core.List.{List, [], ◌++◌, append_assoc, append-nil}
use native.Mathlib.Omega.{arith}
use Rattle.std.proofs.Math.Arith.{digits_lt}
use Rattle.std.proofs.Math.ListN.{length, drop}
use Rattle.std.proofs.lemmas.List.{length-replicate, replicate-append-replicate}
use Rattle.layout.specs.Bits.{in_bits, Bytes, bits_of, put, zeros}
use Rattle.layout.specs.Laws.Bits.{val}
use Rattle.layout.proofs.Laws.Bits.{length_in_bits, in_bits_split, in_bits_cat, in_bits_mod, in_bits_zero, front_is, front_lt, val_in_bits, length_bits_of, bytes_one}
use Rattle.layout.proofs.Laws.Windows.{put_nil, put_both, put_window, length_put, take_put, drop_put}
use Rattle.format.specs.Limits.{longest_buffer}
use Rattle.bits.specs.declared.BitPos.{BitPos}
use Rattle.pen.specs.declared.Pen.{Pen}
use Rattle.pen.specs.Pen.{first_of, inked, Inside, Room, Opened, Drawn, Begun}

-- ---- parts drawn one after the other

length_inked : (s : List ℕ) (p : Pen) → Inside p (length s) → length (inked s p) ≡ 8 * length s
unfolding inked
length_inked s p h =
    let e : length (in_bits (p.at.0 % 32) p.gathered) ≡ p.at.0 % 32 = length_in_bits (p.at.0 % 32) p.gathered in
    let l = length_bits_of s in
    length_put (bits_of s) (first_of p.at.0) (in_bits (p.at.0 % 32) p.gathered) (omega (arith, e, l, h.inside)) ∙ l

pub drawn_none : {new : List Bool} (s : List ℕ) (p : Pen) → new ≡ [] → Inside p (length s) → Drawn new s p s p
drawn_none {new} s p e h =
    let z : length new ≡ 0 = ap length e in
    record { bits = sym (ap (put (inked s p) p.at.0) e ∙ put_nil (inked s p) p.at.0); told = omega (arith, z); rest = refl; within = h }

pub drawn_as : {new same : List Bool} {before after : List ℕ} {pen next : Pen} → new ≡ same → Drawn new before pen after next → Drawn same before pen after next
drawn_as {before = before} {after} {pen} {next} e d = subst (λ (l : List Bool). Drawn l before pen after next) e d

pub room_as : {new same : List Bool} {s : List ℕ} {p : Pen} → new ≡ same → Room new s p → Room same s p
room_as {s = s} {p} e r = subst (λ (l : List Bool). Room l s p) e r

pub drawn_both : {new more whole : List Bool} {before middle after : List ℕ} {pen next last : Pen} → Inside pen (length before) → new ++ more ≡ whole
    → Drawn new before pen middle next → Drawn more middle next after last → Drawn whole before pen after last
drawn_both {new} {more} {whole} {before} {middle} {after} {pen} {next} {last} h e x y =
    let l = length_inked before pen h in
    let n : length whole ≡ length new + length more = ap length (sym e) ∙ length-append new more in
    let j : ℕ = first_of last.at.0 - first_of next.at.0 in
    let k : first_of next.at.0 + j ≡ first_of last.at.0 = omega (arith, y.told) in
    let further : (s : List Bool) → drop (first_of last.at.0) s ≡ drop j (drop (first_of next.at.0) s) = λ s. ap (λ (i : ℕ). drop i s) (sym k) ∙ sym (drop-drop j (first_of next.at.0) s) in
    record {
      bits =
          put_both (inked before pen) new more pen.at.0 (length new) (omega (arith, l, h.inside)) refl x.bits (y.bits ∙ ap (λ (i : ℕ). put (inked middle next) i more) x.told)
          ∙ ap (put (inked before pen) pen.at.0) e;
      told = omega (arith, n, x.told, y.told);
      rest = y.rest ∙ further (bits_of middle) ∙ ap (drop j) x.rest ∙ sym (further (bits_of before));
      within = y.within;
    }

-- ---- part by part

module _ {whole : List Bool} {before : List ℕ} {pen : Pen} (h : Inside pen (length before)) where
  pub begun_none : Begun whole whole before pen before pen
  begun_none = record { done = []; parts = refl; drawn = drawn_none before pen refl h }

  module _ {left : List Bool} {middle : List ℕ} {next : Pen} (b : Begun whole left before pen middle next) where
    pub begun_told : next.at.0 + length left ≡ pen.at.0 + length whole
    begun_told = let n = ap length (sym b.parts) ∙ length-append b.done left in omega (arith, n, b.drawn.told)

    pub begun_more : {new rest : List Bool} {after : List ℕ} {last : Pen} → left ≡ new ++ rest → Drawn new middle next after last → Begun whole rest before pen after last
    begun_more {new} {rest} e d =
        record { done = b.done ++ new; parts = append_assoc b.done new rest ∙ ap (λ (l : List Bool). b.done ++ l) (sym e) ∙ b.parts; drawn = drawn_both h refl b.drawn d }

    pub begun_all : left ≡ [] → Drawn whole before pen middle next
    begun_all e = drawn_as (sym (append-nil b.done) ∙ ap (λ (l : List Bool). b.done ++ l) (sym e) ∙ b.parts) b.drawn

-- ---- a field

-- gathered bits, and those of a field after them
gather : (l : List Bool) (at g w v : ℕ) → at ≤ length l → v < 2 ^ w
    → put l (first_of at) (in_bits (at % 32 + w) (g * 2 ^ w + v)) ≡ put (put l (first_of at) (in_bits (at % 32) g)) at (in_bits w v)
gather l at g w v h k =
    let a = in_bits (at % 32) g in
    let e : at ≡ first_of at + at % 32 = omega arith in
    ap (put l (first_of at)) (in_bits_cat (at % 32) w g k)
    ∙ sym (put_both l a (in_bits w v) (first_of at) (at % 32) (omega arith) (sym (length_in_bits (at % 32) g)) refl (ap (λ (n : ℕ). put (put l (first_of at) a) n (in_bits w v)) e))

-- 64 bits hold what was gathered and a field
pub shifted : (p : Pen) (w v : ℕ) → p.gathered < 2 ^ (p.at.0 % 32) → w ≤ 32 → v < 2 ^ w
    → (p.gathered * 2 ^ w % 2 ^ 64 ≡ p.gathered * 2 ^ w) × (p.gathered * 2 ^ w + v < 2 ^ 64)
shifted p w v h k l =
    let c : ℕ = p.at.0 % 32 in
    let a : p.gathered * 2 ^ w + v < 2 ^ (c + w) = rw (pow-add 2 c w) (digits_lt h l) in
    let b : p.gathered * 2 ^ w + v < 2 ^ 64 = lt_of_lt_of_le a (pow_mono {j = 64} (omega arith)) in
    (mod-eq_of_lt (omega arith), b)

module _ (s : List ℕ) (p : Pen) (w v all : ℕ) (h : Inside p (length s)) (fits : p.at.0 + w ≤ 8 * length s) (lt : v < 2 ^ w) (is : all ≡ p.gathered * 2 ^ w + v) where
  pub all_lt : all < 2 ^ (p.at.0 % 32 + w)
  all_lt = rw (is, pow-add 2 (p.at.0 % 32) w) (digits_lt h.held lt)

  gathered : put (bits_of s) (first_of p.at.0) (in_bits (p.at.0 % 32 + w) all) ≡ put (inked s p) p.at.0 (in_bits w v)
  unfolding inked
  gathered =
      let l = length_bits_of s in
      ap (λ (n : ℕ). put (bits_of s) (first_of p.at.0) (in_bits (p.at.0 % 32 + w) n)) is ∙ gather (bits_of s) p.at.0 p.gathered w v (omega (arith, l, fits)) lt

  -- fewer than 32 are gathered
  pub field_gathered : (next : BitPos) → next.0 ≡ p.at.0 + w → p.at.0 % 32 + w < 32 → Drawn (in_bits w v) s p s (record { at = next; gathered = all })
  unfolding inked
  field_gathered next on few =
      let e : next.0 % 32 ≡ p.at.0 % 32 + w = omega arith in
      let f : first_of next.0 ≡ first_of p.at.0 = omega arith in
      record {
        bits = ap₂ (λ (i n : ℕ). put (bits_of s) i (in_bits n all)) f e ∙ gathered;
        told = on ∙ ap (λ (n : ℕ). p.at.0 + n) (sym (length_in_bits w v));
        rest = refl;
        within = record { held = subst (λ (n : ℕ). all < 2 ^ n) (sym e) all_lt; inside = omega (arith, fits); small = h.small };
      }

  -- the first 32 are stored, and the others stay gathered
  module _ (next : BitPos) (on : next.0 ≡ p.at.0 + w) (r : ℕ) (t : List ℕ) (many : p.at.0 % 32 + w ≡ 32 + r) (less : w ≤ 32) (same : length t ≡ length s) (stored : bits_of t ≡ put (bits_of s) (first_of p.at.0) (in_bits 32 (all / 2 ^ r))) where
    pub field_stored : Drawn (in_bits w v) s p t (record { at = next; gathered = all % 2 ^ r })
    unfolding inked
    field_stored =
        let l = length_bits_of s in
        let e : next.0 % 32 ≡ r = omega arith in
        let f : first_of next.0 ≡ first_of p.at.0 + 32 = omega arith in
        let a = in_bits 32 (all / 2 ^ r) in
        let b = in_bits r (all % 2 ^ r) in
        let first : first_of p.at.0 ≤ length (bits_of s) = omega (arith, l, fits) in
        let d : first_of p.at.0 + length a ≡ first_of next.0 = ap (λ (n : ℕ). first_of p.at.0 + n) (length_in_bits 32 (all / 2 ^ r)) ∙ sym f in
        record {
          bits =
              ap₂ (λ (i n : ℕ). put (bits_of t) i (in_bits n (all % 2 ^ r))) f e
              ∙ put_both (bits_of s) a b (first_of p.at.0) 32 first (sym (length_in_bits 32 (all / 2 ^ r))) stored refl
              ∙ ap (put (bits_of s) (first_of p.at.0)) (ap (λ (x : List Bool). a ++ x) (in_bits_mod r all) ∙ sym (in_bits_split 32 r all) ∙ ap (λ (n : ℕ). in_bits n all) (sym many))
              ∙ gathered;
          told = on ∙ ap (λ (n : ℕ). p.at.0 + n) (sym (length_in_bits w v));
          rest = ap (drop (first_of next.0)) stored ∙ subst (λ (n : ℕ). drop n (put (bits_of s) (first_of p.at.0) a) ≡ drop n (bits_of s)) d (drop_put (bits_of s) (first_of p.at.0) a first);
          within = record { held = subst (λ (n : ℕ). all % 2 ^ r < 2 ^ n) (sym e) (mod-lt all (pow_pos r)); inside = omega (arith, same, on, fits); small = omega (arith, same, h.small) };
        }

-- ---- zeros before a field

pub length_led : (z w v : ℕ) → length (zeros z ++ in_bits w v) ≡ z + w
length_led z w v = length-append (zeros z) (in_bits w v) ∙ ap₂ (λ (a b : ℕ). a + b) (length-replicate z false) (length_in_bits w v)

-- so many of them go alone
pub fewer_zeros : (z w : ℕ) (l : List Bool) → w ≤ z → zeros z ++ l ≡ in_bits w 0 ++ (zeros (z - w) ++ l)
fewer_zeros z w l h =
    let e : z ≡ w + (z - w) = omega arith in
    ap (λ (n : ℕ). zeros n ++ l) e
    ∙ ap (λ (x : List Bool). x ++ l) (sym (replicate-append-replicate w (z - w) false))
    ∙ append_assoc (zeros w) (zeros (z - w)) l
    ∙ ap (λ (x : List Bool). x ++ (zeros (z - w) ++ l)) (sym (in_bits_zero w))

-- ---- opened

pub opened : (s : List ℕ) (at : BitPos) (g : ℕ) → at.0 ≤ 8 * length s → length s ≤ longest_buffer → g ≡ val (take (at.0 % 32) (drop (first_of at.0) (bits_of s))) → Opened s at (record { at = at; gathered = g })
unfolding inked put
opened s at g h k e =
    let c : ℕ = at.0 % 32 in
    let f : ℕ = first_of at.0 in
    let l : List Bool = bits_of s in
    let m = length_bits_of s in
    let fits : c ≤ length (drop f l) = rw length-drop (omega (arith, m, h)) in
    record {
      bits =
          ap (λ (n : ℕ). take f l ++ (in_bits c g ++ drop (f + n) l)) (length_in_bits c g)
          ∙ ap₂ (λ (n : ℕ) (x : List Bool). take f l ++ (in_bits c n ++ x)) e (sym (drop-drop c f l))
          ∙ ap (λ (x : List Bool). take f l ++ x) (sym (front_is c (drop f l) fits))
          ∙ take-append-drop f l;
      told = refl;
      within = record { held = subst (λ (n : ℕ). n < 2 ^ c) (sym e) (front_lt c (drop f l) fits); inside = h; small = k };
    }

-- ---- closed: what was drawn is written where the pen was opened

pub closed : {s t : List ℕ} {at : BitPos} {p q : Pen} {new l : List Bool} → Opened s at p → Drawn new s p t q → l ≡ inked t q
    → (l ≡ put (bits_of s) at.0 new) × (q.at.0 ≡ at.0 + length new)
closed {new = new} o d e =
    (e ∙ d.bits ∙ ap₂ (λ (x : List Bool) (n : ℕ). put x n new) o.bits o.told, d.told ∙ ap (λ (n : ℕ). n + length new) o.told)

-- ---- two outcomes that satisfy the contract of what draws are equal

inked_one : (s t : List ℕ) (p q : Pen) → Bytes s → Bytes t → Inside p (length s) → Inside q (length t) → p.at.0 ≡ q.at.0
    → inked s p ≡ inked t q → drop (first_of p.at.0) (bits_of s) ≡ drop (first_of p.at.0) (bits_of t) → (s ≡ t) × (p ≡ q)
unfolding inked
inked_one s t p q h l i j m e d =
    let k : ℕ = first_of p.at.0 in
    let c : ℕ = p.at.0 % 32 in
    let x : List Bool = in_bits c p.gathered in
    let y : List Bool = in_bits c q.gathered in
    let a = length_bits_of s in
    let b = length_bits_of t in
    let u : length x ≡ c = length_in_bits c p.gathered in
    let v : length y ≡ c = length_in_bits c q.gathered in
    let f : put (bits_of s) k x ≡ put (bits_of t) k y = e ∙ ap (λ (n : ℕ). put (bits_of t) (first_of n) (in_bits (n % 32) q.gathered)) (sym m) in
    let first : take k (bits_of s) ≡ take k (bits_of t) = sym (take_put (bits_of s) k x (omega (arith, a, i.inside))) ∙ ap (take k) f ∙ take_put (bits_of t) k y (omega (arith, b, m, j.inside)) in
    let w : x ≡ y =
    sym (put_window (bits_of s) k x (omega (arith, a, u, i.inside)))
    ∙ ap₂ (λ (n : ℕ) (z : List Bool). drop k (take (k + n) z)) (u ∙ sym v) f
    ∙ put_window (bits_of t) k y (omega (arith, b, v, m, j.inside))
    in
    let g : p.gathered ≡ q.gathered =
    sym (mod-eq_of_lt i.held) ∙ sym (val_in_bits c p.gathered) ∙ ap val w ∙ val_in_bits c q.gathered
    ∙ mod-eq_of_lt (subst (λ (n : ℕ). q.gathered < 2 ^ (n % 32)) (sym m) j.held)
    in (
      bytes_one s t h l (sym (take-append-drop k (bits_of s)) ∙ ap₂ ◌++◌ first d ∙ take-append-drop k (bits_of t)),
      ap₂ (λ (n o : ℕ). record { at = record { 0 = n }; gathered = o }) m g,
    )

pub drawn_one : {new : List Bool} {before after after' : List ℕ} {pen next next' : Pen} → Bytes after → Bytes after'
    → Drawn new before pen after next → Drawn new before pen after' next' → (after ≡ after') × (next ≡ next')
drawn_one {before = before} {after = after} {after' = after'} {next = next} {next' = next'} h l x y =
    let m : next.at.0 ≡ next'.at.0 = x.told ∙ sym y.told in
    inked_one after after' next next' h l x.within y.within m (x.bits ∙ sym y.bits)
    (x.rest ∙ subst (λ (n : ℕ). drop (first_of n) (bits_of before) ≡ drop (first_of n) (bits_of after')) (sym m) (sym y.rest))

pub opened_one : {s : List ℕ} {at : BitPos} {p q : Pen} → Bytes s → Opened s at p → Opened s at q → p ≡ q
opened_one {s} {at} {p} {q} h x y = (inked_one s s p q h h x.within y.within (x.told ∙ sym y.told) (x.bits ∙ sym y.bits) refl).1

-- of what closes, and of what writes a field
pub bits_one : {after after' : List ℕ} {l : List Bool} → Bytes after → Bytes after' → bits_of after ≡ l → bits_of after' ≡ l → after ≡ after'
bits_one {after} {after'} h k e f = bytes_one after after' h k (e ∙ sym f)
