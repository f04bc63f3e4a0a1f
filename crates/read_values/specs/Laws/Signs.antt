-- A word halved in the machine's 32 bits, and negated.
use Rattle.std.specs.Prelude.{◌≡◌, ℕ, zero, suc, ◌+◌, ◌*◌, ◌/◌, ◌%◌, ◌≤◌, ℤ, pos, negsuc, neg_ℤ}
use Rattle.std.proofs.Common.{arith, SFits, to_z, to_z-of_z}
use Rattle.std.specs.Int.{w32}
use Rattle.format.specs.Limits.{largest_word, largest_correction}
use Rattle.format.specs.Kinds.{Corrections, InRange, word_of}

pub correction_fits : (x : ℤ) → InRange Corrections x → SFits w32 x
correction_fits (pos n) h = record { sfits = omega arith }
correction_fits (negsuc n) h = record { sfits = omega arith }

-- bits below the sign's read as themselves
pub half_back : (n : ℕ) → n ≤ largest_correction → to_z w32 n ≡ pos n
half_back n h = to_z-of_z {w = w32} {z = pos n} (record { sfits = omega arith })

module _ (w : ℕ) (two : 2 ≤ w) (most : w ≤ largest_word) where
  pub half_in : InRange Corrections (pos (w / 2))
  half_in = (omega arith, omega arith)

  pub even_half : w % 2 ≡ 0 → InRange Corrections (pos (w / 2)) × (word_of Corrections (pos 0) (pos (w / 2)) ≡ w)
  even_half e = (half_in, omega arith)

  pub odd_half : (w % 2 ≡ 0 → ⊥) → InRange Corrections (neg_ℤ (pos (w / 2))) × (word_of Corrections (pos 0) (neg_ℤ (pos (w / 2))) ≡ w)
  odd_half e = go (w / 2) (omega arith) (omega arith)
    where
      go : (h : ℕ) → 2 * h + 1 ≡ w → 1 ≤ h → InRange Corrections (neg_ℤ (pos h)) × (word_of Corrections (pos 0) (neg_ℤ (pos h)) ≡ w)
      go zero f l = absurd (omega arith)
      go (suc h) f l = (omega arith, omega arith)
