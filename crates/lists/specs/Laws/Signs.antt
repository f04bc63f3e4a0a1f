-- Corrections in the machine's 32 bits: a test against 0, a negation, and the tests of the range.
use Rattle.std.specs.Prelude.{◌≡◌, refl, true, false, ℕ, zero, suc, ◌+◌, ◌*◌, ◌≤◌, T, ℤ, pos, negsuc, neg_ℤ, nat_abs, ◌-ℤ◌}
use Rattle.std.proofs.Common.{ap, ◌∙◌, arith, SFits, to_z, of_z, to_z-of_z}
use Rattle.std.proofs.Math.Dec.{leb-zero}
use Rattle.std.proofs.Math.IntN.{+ℤ_idl}
use Rattle.std.specs.Int.Signed.{le_z, lt_z, non_neg}
use Rattle.std.specs.Int.{w32}
use Rattle.format.specs.Limits.{largest_correction}
use Rattle.format.specs.Kinds.{Corrections, InRange, word_of}
use Rattle.lists.specs.Tests.{Unless}
use Rattle.lists.specs.Laws.Tests.{unless_below}

-- the size of a correction, which its negation has too
pub correction_size : (x : ℤ) → InRange Corrections x → nat_abs x ≤ largest_correction
correction_size (pos n) h = h.1
correction_size (negsuc n) h = h

pub negated_size : (x : ℤ) → nat_abs (neg_ℤ x) ≡ nat_abs x
negated_size (pos zero) = refl
negated_size (pos (suc n)) = refl
negated_size (negsuc n) = refl

size_fits : (x : ℤ) → nat_abs x ≤ largest_correction → SFits w32 x
size_fits (pos n) h = record { sfits = omega arith }
size_fits (negsuc n) h = record { sfits = omega arith }

-- the machine subtracts from 0
pub negated : (x : ℤ) → pos 0 -ℤ x ≡ neg_ℤ x
negated x = +ℤ_idl (neg_ℤ x)

pub negated_fits : (x : ℤ) → InRange Corrections x → SFits w32 (neg_ℤ x)
negated_fits x h = size_fits (neg_ℤ x) (omega (arith, negated_size x, correction_size x h))

pub negated_back : (x : ℤ) → InRange Corrections x → to_z w32 (of_z w32 (pos 0 -ℤ x)) ≡ neg_ℤ x
negated_back x h = ap (λ (y : ℤ). to_z w32 (of_z w32 y)) (negated x) ∙ to_z-of_z (negated_fits x h)

-- the two answers of the test 0 <= x
pub not_negative : (x : ℤ) → le_z (pos 0) x ≡ true → T (non_neg x)
not_negative (pos n) h = tt
not_negative (negsuc n) h = let z : ◌≡◌ {A = ℕ} 0 1 = cc in absurd (omega arith)

pub negated_not_negative : (x : ℤ) → le_z (pos 0) x ≡ false → T (non_neg (neg_ℤ x))
negated_not_negative (pos n) h = let z : ◌≡◌ {A = ℕ} 0 1 = cc (leb-zero n) in absurd (omega arith)
negated_not_negative (negsuc n) h = tt

pub word_above : (x : ℤ) → le_z (pos 0) x ≡ true → 2 * nat_abs x ≡ word_of Corrections (pos 0) x
word_above (pos n) h = refl
word_above (negsuc n) h = let z : ◌≡◌ {A = ℕ} 0 1 = cc in absurd (omega arith)

pub word_below : (x : ℤ) → le_z (pos 0) x ≡ false → 2 * nat_abs (neg_ℤ x) + 1 ≡ word_of Corrections (pos 0) x
word_below (pos n) h = let z : ◌≡◌ {A = ℕ} 0 1 = cc (leb-zero n) in absurd (omega arith)
word_below (negsuc n) h = omega arith

-- the two tests of the range
pub zero_outside : (x : ℤ) → SFits w32 x → of_z w32 x ≡ 0 → InRange Corrections x → ⊥
zero_outside (pos n) f e h = omega (arith, h.0)
zero_outside (negsuc n) f e h = omega (arith, f.sfits)

pub lowest_outside : (x : ℤ) (k : ℕ) → SFits w32 x → (of_z w32 x ≡ 0 → ⊥) → suc k ≡ largest_correction → Unless (InRange Corrections x) (lt_z x (negsuc k))
lowest_outside (pos zero) k f z e = absurd (z refl)
lowest_outside (pos (suc n)) k f z e = (omega arith, omega (arith, f.sfits))
lowest_outside (negsuc n) k f z e = unless_below k n (λ h. omega arith) (λ h. omega arith)
