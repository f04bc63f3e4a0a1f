-- What is left where bits were written at a position.
use Rattle.std.specs.Prelude.{◌≡◌, Bool, List, ℕ, ◌+◌, length}
use Rattle.layout.specs.Bits.{bits_of, put}
use Rattle.bits.specs.declared.BitPos.{BitPos}

-- the bits new stand there, no other bit has changed, and next is the bit after them
pub record Written (new : List Bool) (before : List ℕ) (at : BitPos) (after : List ℕ) (next : BitPos) : Type 0 where
  pub bits : bits_of after ≡ put (bits_of before) at.0 new
  pub told : next.0 ≡ at.0 + length new
