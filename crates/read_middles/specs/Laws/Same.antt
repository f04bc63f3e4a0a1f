-- Two answers that satisfy the contract of what reads a middle are equal.
use Rattle.std.specs.Prelude.{◌≡◌, List, ℕ, ◌+◌, ◌-◌, ◌/◌, ◌<◌, length}
use Rattle.std.proofs.Common.{sym, ap, ap₂, ◌∙◌, inl, inr, arith}
use Rattle.layout.specs.Layout.{Layout}
use Rattle.layout.specs.Sound.{Sound}
use Rattle.format.specs.Interpolative.{offset}
use Rattle.format.proofs.Laws.Parts.{offset_sound}
use Rattle.bits.specs.Cursor.{Within, left, to}
use Rattle.bits.specs.declared.Cursor.{Cursor}
use Rattle.reading.specs.Laws.Steps.{no_taken, taken_one, told_at}
use Rattle.read_middles.specs.Parts.{cursor, Halting, refused_at, ToldNext, goes, halts, ToldMiddle}

-- what a value comes to is known where it is taken
module _ {A : Type 0} {L : Layout A} (l : Sound L) {Good Other : A → Type 0} {s : List ℕ} {at stop next next' : ℕ} (w : Within (cursor at stop) (length s)) where
  next_same : ToldNext L Good s at stop next → ToldNext L Other s at stop next' → next ≡ next'
  next_same (goes a g t) (goes b k o) = ap (λ (c : Cursor). c.at.0) (taken_one l t o).1
  next_same (goes a g t) (halts number bit which e r) = absurd (no_taken l r t)
  next_same (halts number bit which e r) (goes a g t) = absurd (no_taken l r t)
  next_same (halts number bit which e r) (halts m q other f o) =
      let (n, u) = l.sole r.no o.no in
      let x = told_at s (cursor at stop) (record { 0 = bit }) w r.upto in
      let y = told_at s (cursor at stop) (record { 0 = q }) w o.upto in
      let k : length (left (to (cursor at stop) (record { 0 = bit })) s) ≡ length (left (to (cursor at stop) (record { 0 = q })) s) = ap length u in
      let z : bit ≡ q = omega arith in
      e ∙ ap₂ refused_at n z ∙ sym f

-- no bit of a buffer is so large as a refusal
far : {stop number next : ℕ} (bit : ℕ) → stop < 4294967296 → Halting number → next ≡ refused_at number bit → stop < next
far bit small (inl six) e = omega arith
far bit small (inr nine) e = omega arith

-- and where it is refused the element is the least one
sound : (n low hi : ℕ) → Sound (offset (low + (n - 1) / 2) (hi + 2 - (low + n)))
sound n low hi = offset_sound (low + (n - 1) / 2) (hi + 2 - (low + n))

module _ (n low hi : ℕ) {s : List ℕ} {at stop e e' next next' : ℕ} (w : Within (cursor at stop) (length s)) (small : stop < 4294967296) where
  element_same : ToldMiddle n low hi e s at stop next → (stop < next → e ≡ low + (n - 1) / 2) → ToldMiddle n low hi e' s at stop next' → (stop < next' → e' ≡ low + (n - 1) / 2) → e ≡ e'
  element_same (goes a g t) p (goes b k o) q = sym g ∙ (taken_one (sound n low hi) t o).0 ∙ k
  element_same (goes a g t) p (halts number bit which f r) q = absurd (no_taken (sound n low hi) r t)
  element_same (halts number bit which f r) p (goes a g t) q = absurd (no_taken (sound n low hi) r t)
  element_same (halts number bit which f r) p (halts m k other h o) q = p (far bit small which f) ∙ sym (q (far k small other h))

  pub middle_same : ToldMiddle n low hi e s at stop next → (stop < next → e ≡ low + (n - 1) / 2) → ToldMiddle n low hi e' s at stop next' → (stop < next' → e' ≡ low + (n - 1) / 2)
      → (e ≡ e') × (next ≡ next')
  middle_same x p y q = (element_same x p y q, next_same (sound n low hi) w x y)
