-- Reading at a cursor goes by parts, as layouts are made.
use Rattle.std.specs.Prelude.{◌≡◌, refl, Bool, List, ◌++◌, ℕ, ◌-◌, ◌≤◌, length}
use Rattle.std.proofs.Common.{sym, ap, ◌∙◌, subst, append_assoc, arith}
use Rattle.layout.specs.Bits.{window}
use Rattle.layout.specs.Layout.{Layout, known, BindNo, first, second, bind, field, value, only, made}
use Rattle.layout.specs.Sound.{Sound}
use Rattle.layout.proofs.Laws.Sound.{takes_one}
use Rattle.format.specs.Answers.{told_bit}
use Rattle.bits.specs.Cursor.{Within, left, to, Taken, Refuses}
use Rattle.bits.specs.Laws.Cursor.{length_left}
use Rattle.bits.specs.Laws.Same.{same_place}
use Rattle.bits.specs.declared.BitPos.{BitPos}
use Rattle.bits.specs.declared.Cursor.{Cursor}

-- ---- a field, and then what its value asks for

module _ {A B : Type 0} {L : Layout A} {M : A → Layout B} {s : List ℕ} {c : Cursor} where
  pub taken_bind : {d e : Cursor} {a : A} {b : B} → Taken L s c a d → Taken (M a) s d b e → Taken (bind L M) s c (a, b) e
  taken_bind {e = e} {a = a} {b = b} t k = record {
    takes = record {
      valid = (t.takes.valid, k.takes.valid);
      front = t.takes.front ∙ ap (λ (x : List Bool). L.bits a ++ x) k.takes.front ∙ sym (append_assoc (L.bits a) ((M a).bits b) (left e s));
    };
    within = k.within;
    stop = k.stop ∙ t.stop;
  }

  pub no_first : {n : ℕ} {p : BitPos} → Refuses L s c n p → Refuses (bind L M) s c n p
  no_first r = record { no = first r.no; upto = r.upto }

  pub no_second : {d : Cursor} {a : A} {n : ℕ} {p : BitPos} → Taken L s c a d → Refuses (M a) s d n p → Refuses (bind L M) s c n p
  no_second {d} {a} {n} {p} t r =
      let h : BindNo L M (left c s) n (left (to d p) s) = second a (left d s) t.takes r.no in
      record {
        no = subst (λ (z : BitPos). BindNo L M (left c s) n (window s p.0 z.0)) t.stop h;
        upto = subst (λ (z : BitPos). p.0 ≤ z.0) t.stop r.upto;
      }

-- ---- a field that holds only some values

module _ {A B : Type 0} {N : ℕ} {good : B → Type 0} {f : B → A} {L : Layout A} {s : List ℕ} {c : Cursor} where
  pub taken_only : {d : Cursor} (b : B) {a : A} → good b → f b ≡ a → Taken L s c a d → Taken (only N good f L) s c b d
  taken_only {d} b g e t =
      let k : Taken L s c (f b) d = subst (λ (x : A). Taken L s c x d) (sym e) t in
      record { takes = record { valid = (g, k.takes.valid); front = k.takes.front }; within = k.within; stop = k.stop }

  pub no_field : {n : ℕ} {p : BitPos} → Refuses L s c n p → Refuses (only N good f L) s c n p
  no_field r = record { no = field r.no; upto = r.upto }

  pub no_value : {d : Cursor} {a : A} → Within c (length s) → Taken L s c a d → ((b : B) → good b → f b ≡ a → ⊥) → Refuses (only N good f L) s c N c.at
  no_value w t h = record { no = value _ _ t.takes h; upto = w.order }

-- ---- values put together of parts, and what is known

pub taken_made : {A B : Type 0} {good : B → Type 0} {f : B → A} {L : Layout A} {s : List ℕ} {c d : Cursor} (b : B) {a : A}
    → good b → f b ≡ a → Taken L s c a d → Taken (made good f L) s c b d
taken_made {f = f} {L = L} {s = s} {c = c} {d = d} b g e t =
    let k : Taken L s c (f b) d = subst (λ x. Taken L s c x d) (sym e) t in
    record { takes = record { valid = (g, k.takes.valid); front = k.takes.front }; within = k.within; stop = k.stop }

pub taken_known : {A : Type 0} (a : A) {s : List ℕ} {c : Cursor} → Within c (length s) → Taken (known a) s c a c
taken_known a w = record { takes = record { valid = refl; front = refl }; within = w; stop = refl }

-- ---- one answer

module _ {A : Type 0} {L : Layout A} (l : Sound L) {s : List ℕ} {c : Cursor} where
  pub no_taken : {n : ℕ} {p : BitPos} {a : A} {d : Cursor} → Refuses L s c n p → Taken L s c a d → ⊥
  no_taken r t = l.apart r.no t.takes

  pub taken_one : {a b : A} {d e : Cursor} → Taken L s c a d → Taken L s c b e → (a ≡ b) × (d ≡ e)
  taken_one {d = d} {e = e} t k =
      let (x, y) = takes_one l t.takes k.takes in
      (x, same_place s s d e t.within k.within (t.stop ∙ sym k.stop) y)

-- the bits from a bit on that a refusal tells have it as the bit that they begin with
pub told_at : (s : List ℕ) (c : Cursor) (p : BitPos) → Within c (length s) → p.0 ≤ c.stop.0 → p.0 ≡ c.stop.0 - length (left (to c p) s)
told_at s c p w h =
    let n = length_left s (to c p) (record { order = h; inside = w.inside; small = w.small }) in
    omega arith

-- and the bit after what was taken is the one that the bits left begin with
pub at_bit : (s : List ℕ) (c d : Cursor) → Within d (length s) → d.stop ≡ c.stop → d.at.0 ≡ told_bit c.stop.0 (left d s)
at_bit s c d w e =
    let n = length_left s d w in
    let o = w.order in
    let f : d.stop.0 ≡ c.stop.0 = ap (λ (p : BitPos). p.0) e in
    omega arith

-- at a bit that is known otherwise
pub no_at : {A : Type 0} {L : Layout A} {s : List ℕ} {c : Cursor} {n : ℕ} {p q : BitPos} → Refuses L s c n p → q ≡ p → Refuses L s c n q
no_at {L = L} {s = s} {c = c} {n = n} r e = subst (λ (x : BitPos). Refuses L s c n x) (sym e) r
