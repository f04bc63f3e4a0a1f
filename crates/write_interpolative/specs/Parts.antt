-- The body of a list of instants by its parts: a run of the rising list, its middle and its halves; the last instant and the others.
use Rattle.std.specs.Prelude.{◌≡◌, Bool, List, ◌++◌, ℕ, suc, ◌+◌, ◌-◌, ◌/◌, ◌^◌, ◌<◌, length, take, drop}
use Rattle.layout.specs.Bits.{in_bits}
use Rattle.format.specs.Codes.{delta}
use Rattle.format.specs.Interpolative.{width, part, rising, interpolative}

-- of the rising list of the instants ts, n elements after the first `start`
unfoldable pub elements : List ℕ → ℕ → ℕ → List ℕ
elements ts start n = rising (suc start) (take n (drop start ts))

-- their bits, between low and hi
unfoldable pub image : List ℕ → ℕ → ℕ → ℕ → ℕ → List Bool
image ts start n low hi = (part n low hi).bits (elements ts start n)

-- they are a part between low and hi
pub record Ready (ts : List ℕ) (start n low hi : ℕ) : Type 0 where
  pub ok : (part n low hi).ok (elements ts start n)

-- s is their middle: its offset has a width that holds it, those left of it and those right of it are parts, and their bits are its
-- own, then those of the two
pub record Halves (ts : List ℕ) (start n low hi s : ℕ) : Type 0 where
  pub held : s - (low + (n - 1) / 2) < 2 ^ width (hi + 2 - (low + n))
  pub left : Ready ts start ((n - 1) / 2) low (s - 1)
  pub right : Ready ts (start + (n - 1) / 2 + 1) (n / 2) (s + 1) hi
  pub whole : image ts start n low hi
      ≡ in_bits (width (hi + 2 - (low + n))) (s - (low + (n - 1) / 2))
      ++ (image ts start ((n - 1) / 2) low (s - 1) ++ image ts (start + (n - 1) / 2 + 1) (n / 2) (s + 1) hi)

-- `last` comes after so many others: these are a part, and the body is the last in delta, then that part
pub record Body (ts : List ℕ) (others last : ℕ) : Type 0 where
  pub ready : Ready ts 0 others 1 (last + others)
  pub whole : (interpolative (length ts)).bits ts ≡ delta (last + 1) ++ image ts 0 others 1 (last + others)
