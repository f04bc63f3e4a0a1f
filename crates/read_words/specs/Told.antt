-- What the readers of words tell.
use Rattle.std.specs.Prelude.{◌⊎◌, Result, Ok, Err, Bool, true, List, [], ◌∷◌, ◌++◌, ℕ, ◌-◌, ◌/◌, ◌^◌, ◌≤◌, ◌<◌}
use Rattle.layout.specs.Bits.{zeros}
use Rattle.layout.specs.Layout.{Stops, word}
use Rattle.layout.specs.Dead.{Dies}
use Rattle.bits.specs.Cursor.{left, to, Taken}
use Rattle.bits.specs.declared.BitPos.{BitPos}
use Rattle.bits.specs.declared.Cursor.{Cursor}
use Rattle.read_words.specs.declared.NoWord.{NoWord}
use Rattle.read_words.specs.declared.NoWord.TheVariants.{Cut, Bad}

-- of a set of words with these bits, at a cursor: taken, cut short, or dead at a bit
pub data ToldWord (ok : ℕ → Type 0) (bits : ℕ → List Bool) (s : List ℕ) (c : Cursor) : Result (ℕ × Cursor) NoWord → Type 0 where
  took : {w : ℕ} {d : Cursor} → Taken (word ok bits) s c w d → ToldWord ok bits s c (Ok (w, d))
  cut : Stops ok bits (left c s) → ToldWord ok bits s c (Err Cut)
  bad : {p : BitPos} → Dies ok bits (left c s) (left (to c p) s) → p.0 ≤ c.stop.0 → ToldWord ok bits s c (Err (Bad p))

-- ---- the two parts that words are made of

-- q zeros and a one, for q up to k
abbrev pub Upto : ℕ → ℕ → Type 0
Upto k q = q ≤ k

abbrev pub run : ℕ → List Bool
run q = zeros q ++ true ∷ []

-- the numbers from lo to hi in n bits
abbrev pub Among : ℕ → ℕ → ℕ → ℕ → Type 0
Among n lo hi v = (lo ≤ v) × (v ≤ hi) × (v < 2 ^ n)

-- the words from 1 to top
abbrev pub Upward : ℕ → ℕ → Type 0
Upward top w = (1 ≤ w) × (w ≤ top)

-- of w bits that stand for v, the first r are the first of n bits of a number from lo to hi, and r + 1 are not
pub record Live (v w n lo hi r : ℕ) : Type 0 where
  pub upto : r ≤ w
  pub low : lo / 2 ^ (n - r) ≤ v / 2 ^ (w - r)
  pub high : v / 2 ^ (w - r) ≤ hi / 2 ^ (n - r)
  pub dead : r < w → (v / 2 ^ (w - r - 1) < lo / 2 ^ (n - r - 1)) ⊎ (hi / 2 ^ (n - r - 1) < v / 2 ^ (w - r - 1))
