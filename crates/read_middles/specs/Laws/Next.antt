-- An answer in one number that is known.
use Rattle.std.specs.Prelude.{◌≡◌, List, ℕ, ◌*◌, ◌/◌, ◌%◌, ◌≤◌, ◌<◌, length}
use Rattle.std.proofs.Common.{sym, subst, subst₂, inl, inr, arith}
use Rattle.layout.specs.Layout.{Layout}
use Rattle.format.specs.Limits.{longest_buffer}
use Rattle.bits.specs.Cursor.{Within, Taken, Refuses}
use Rattle.bits.specs.declared.BitPos.{BitPos}
use Rattle.read_middles.specs.Parts.{cursor, Halting, Halted, ToldNext, goes, halts}

-- bare numbers that lie within a buffer
pub lies : (s : List ℕ) (at stop : ℕ) → (at ≤ stop) × (stop ≤ 8 * length s) × (length s ≤ longest_buffer) → Within (cursor at stop) (length s)
lies s at stop h = record { order = h.0; inside = h.1; small = h.2 }

module _ {A : Type 0} {L : Layout A} {Good : A → Type 0} {s : List ℕ} {at stop next : ℕ} where
  -- up to the stop it is the bit after a value
  pub went : ToldNext L Good s at stop next → next ≤ stop → stop < 4294967296 → (a : A) × Good a × Taken L s (cursor at stop) a (cursor next stop)
  went (goes a g t) near small = (a, g, t)
  went (halts number bit (inl six) e r) near small = absurd (omega arith)
  went (halts number bit (inr nine) e r) near small = absurd (omega arith)

  -- beyond the stop it is a refusal, and so is the whole's
  pub halted : {B : Type 0} {M : Layout B} {Other : B → Type 0} {from : ℕ} → ToldNext L Good s at stop next → stop < next
      → ((number : ℕ) (p : BitPos) → Refuses L s (cursor at stop) number p → Refuses M s (cursor from stop) number p) → ToldNext M Other s from stop next
  halted (goes a g t) far f = absurd (omega (arith, t.within.order))
  halted (halts number bit which e r) far f = halts number bit which e (f number (record { 0 = bit }) r)

  -- by its number
  pub halted_why : ToldNext L Good s at stop next → stop < next → stop < 4294967296 → Halted next
  halted_why (goes a g t) far small = absurd (omega (arith, t.within.order))
  halted_why (halts number bit which e r) far small = let a : number ≡ next / 4294967296 = omega (arith, r.upto) in subst Halting a which

  -- by its number and its bit
  pub halted_at : ToldNext L Good s at stop next → stop < next → stop < 4294967296 → (p : BitPos) → p.0 ≡ next % 4294967296
      → Refuses L s (cursor at stop) (next / 4294967296) p
  halted_at (goes a g t) far small p is = absurd (omega (arith, t.within.order))
  halted_at (halts number bit which e r) far small p is =
      let a : number ≡ next / 4294967296 = omega (arith, r.upto) in
      let b : bit ≡ p.0 = omega (arith, r.upto) in
      subst₂ (λ (k q : ℕ). Refuses L s (cursor at stop) k (record { 0 = q })) a b r

-- a refusal that is not 6 is 9
pub halted_nine : {number : ℕ} → Halting number → (number ≡ 6 → ⊥) → 9 ≡ number
halted_nine (inl six) other = absurd (other six)
halted_nine (inr nine) other = sym nine
