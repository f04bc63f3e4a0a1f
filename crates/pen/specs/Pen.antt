-- A pen over a buffer, and what is drawn with it.
use Rattle.std.specs.Prelude.{◌≡◌, Bool, List, ◌++◌, ℕ, ◌+◌, ◌*◌, ◌/◌, ◌%◌, ◌^◌, ◌≤◌, ◌<◌, length, drop}
use Rattle.layout.specs.Bits.{in_bits, bits_of, put}
use Rattle.format.specs.Limits.{longest_buffer}
use Rattle.bits.specs.declared.BitPos.{BitPos}
use Rattle.pen.specs.declared.Pen.{Pen}

-- the last multiple of 32: from this bit on stand the gathered bits
abbrev pub first_of : ℕ → ℕ
first_of at = 32 * (at / 32)

-- what a buffer is to hold: its own bits, and in their place the gathered ones
unfoldable pub inked : List ℕ → Pen → List Bool
inked s p = put (bits_of s) (first_of p.at.0) (in_bits (p.at.0 % 32) p.gathered)

-- a pen that lies within a buffer of n bytes, of which there are not too many, and has gathered no more than its bits
pub record Inside (p : Pen) (n : ℕ) : Type 0 where
  pub held : p.gathered < 2 ^ (p.at.0 % 32)
  pub inside : p.at.0 ≤ 8 * n
  pub small : n ≤ longest_buffer

-- a buffer that has room for the bits new where the pen is
pub record Room (new : List Bool) (s : List ℕ) (p : Pen) : Type 0 where
  pub within : Inside p (length s)
  pub fits : p.at.0 + length new ≤ 8 * length s

-- a pen at a bit, before anything is drawn
pub record Opened (s : List ℕ) (at : BitPos) (p : Pen) : Type 0 where
  pub bits : inked s p ≡ bits_of s
  pub told : p.at.0 ≡ at.0
  pub within : Inside p (length s)

-- the bits new are to stand where the pen was, and no other bit is to change; next is the pen after them, and where nothing is
-- stored yet the buffer is as it was
pub record Drawn (new : List Bool) (before : List ℕ) (pen : Pen) (after : List ℕ) (next : Pen) : Type 0 where
  pub bits : inked after next ≡ put (inked before pen) pen.at.0 new
  pub told : next.at.0 ≡ pen.at.0 + length new
  pub rest : drop (first_of next.at.0) (bits_of after) ≡ drop (first_of next.at.0) (bits_of before)
  pub within : Inside next (length after)

-- of the bits whole some are drawn, and left are to come
pub record Begun (whole left : List Bool) (before : List ℕ) (pen : Pen) (after : List ℕ) (next : Pen) : Type 0 where
  pub done : List Bool
  pub parts : done ++ left ≡ whole
  pub drawn : Drawn done before pen after next
