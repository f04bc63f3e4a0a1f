-- What one look at the next 57 bits tells of a word.
use Rattle.std.specs.Prelude.{◌≡◌, Option, Some, None, Bool, List, ℕ, ◌-◌, ◌/◌, ◌^◌, ◌≤◌}
use Rattle.layout.specs.Bits.{in_bits}
use Rattle.layout.specs.Layout.{word}
use Rattle.format.specs.Codes.{Word}
use Rattle.bits.specs.Cursor.{onward, Taken}
use Rattle.bits.specs.Look.{Looked}
use Rattle.bits.specs.declared.Cursor.{Cursor}
use Rattle.glimpse_words.specs.declared.Glimpse.{Glimpse}

-- nothing, or a word that has the first `bits` of the 64 bits of n as its own, with their number; they are among the first 57
pub data Glimpsed (image : ℕ → List Bool) (n : ℕ) : Option Glimpse → Type 0 where
  unsettled : Glimpsed image n None
  seen : {g : Glimpse} → Word g.word → g.bits ≤ 57 → image g.word ≡ in_bits g.bits (n / 2 ^ (64 - g.bits)) → Glimpsed image n (Some g)

-- the same of a look at the bits of a buffer from one on
pub record GlimpsedAt (image : ℕ → List Bool) (s : List ℕ) (at : ℕ) (r : Option Glimpse) : Type 0 where
  pub n : ℕ
  pub look : Looked s at n
  pub told : Glimpsed image n r

-- nothing, or a word that stands at the cursor, with the number of its bits
pub data Settled (image : ℕ → List Bool) (s : List ℕ) (c : Cursor) : Option Glimpse → Type 0 where
  unsettled : Settled image s c None
  settled : {g : Glimpse} → Taken (word Word image) s c g.word (onward c g.bits) → Settled image s c (Some g)
