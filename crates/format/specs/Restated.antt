-- What the theorems say in words of their own, besides the definitions of outcomes. A reader of the promises has to believe these too.
use Rattle.std.specs.Prelude.{◌≡◌, Bool, true, false, List, [], ◌∷◌, ◌++◌, ℕ, zero, suc, ◌+◌, ◌-◌, ◌*◌, ◌/◌, ◌%◌, ◌^◌, ◌≤◌, ◌<◌, ltb, ℤ, length, get_or, drop}
use Rattle.layout.specs.Bits.{in_bits, zeros, bits_of, put, window}
use Rattle.format.specs.Limits.{largest_instant}
use Rattle.format.specs.Kinds.{Kind, Plain, Instants, Corrections, kind_number, Family, natural}
use Rattle.format.specs.Interpolative.{width}
use Rattle.format.specs.Records.{Rice, code_number, Record, Valid, any_record}
use Rattle.format.specs.Answers.{gives, Span, told_bit, Told}
use Rattle.format.specs.Reading.{listed, Reads}

-- ---- numbers

-- n has suc m digits of base b
pub record Held (b n m : ℕ) : Type 0 where
  pub low : b ^ m ≤ n
  pub high : n < b ^ suc m

-- ---- the writer

-- r is the record that a caller of the writer asks for: "A parameter given for a code that has none is ignored; it is 0 in the record"
pub record Holds (r : Record) (code parameter kind : ℕ) (values : List ℤ) : Type 0 where
  pub code_is : code_number r.code ≡ code
  pub kind_is : kind_number r.kind ≡ kind
  pub parameter_is : (r.code ≡ Rice → r.parameter ≡ parameter) × ((r.code ≡ Rice → ⊥) → r.parameter ≡ 0)
  pub values_are : r.values ≡ values

-- "After success the writer has changed only the record's bits, and tells the bit after them."
pub record WrittenBits (bytes : List ℕ) (start : ℕ) (r : Record) (p : ℕ) (after : List ℕ) : Type 0 where
  pub told : p ≡ start + length (any_record.bits r)
  pub left : bits_of after ≡ put (bits_of bytes) start (any_record.bits r)
  pub size : length after ≡ length bytes
  pub inside : p ≤ 8 * length bytes

-- said of the told bit and of the bits alone: at a byte's end, at least four bits on and less than a byte more, and all between are zero
pub record EndWritten (start p : ℕ) (after : List ℕ) : Type 0 where
  pub whole : p % 8 ≡ 0
  pub mark : start + 4 ≤ p
  pub least : p < start + 12
  pub blank : window after start p ≡ zeros (p - start)

-- ---- the reader

-- it accepts exactly the bits that begin with a valid record of the kind that it is asked for, with room for its list
pub record Accepted (bytes : List ℕ) (start stop : ℕ) (f : Family) (kind : ℕ) (old : List ℤ) (r : Record) (p : ℕ) (new : List ℤ) : Type 0 where
  pub span : Span bytes start stop
  pub told : Told f kind r.kind
  pub valid : Valid r
  pub room : length r.values ≤ length old
  pub rest : List Bool
  pub front : window bytes start stop ≡ any_record.bits r ++ rest
  -- "tells heading and next bit"
  pub next : p ≡ told_bit stop rest
  -- "fills the first count values of the lent list, leaves the rest"
  pub list : new ≡ r.values ++ drop (length r.values) old

-- what the writer has written, read back from the same start up to the bit that the writer told
pub record ReadBack (after : List ℕ) (start p : ℕ) (f : Family) (code parameter kind : ℕ) (values old : List ℤ) : Type 0 where
  pub entry : Record
  pub holds : Holds entry code parameter kind values
  pub valid : Valid entry
  pub reads : Reads after start p f kind old (gives (listed entry p)) (values ++ drop (length values) old)

-- "5 to 10 from a reader [tells] the bit where the failing field starts": it lies between start and stop, and what stands from
-- there up to the stop is what the reader had left
pub record Between (bytes : List ℕ) (start stop : ℕ) (u : List Bool) : Type 0 where
  pub low : start ≤ told_bit stop u
  pub high : told_bit stop u ≤ stop
  pub left : window bytes (told_bit stop u) stop ≡ u

-- "10: an instant above 4,294,967,294, or the word 1 in kind 2": the words that stand for no value. After the instant p the word w
-- stands for p + w - 1
abbrev pub NoValue : Kind → ℤ → ℕ → Type 0
NoValue Plain p w = ⊥
NoValue Instants p w = largest_instant + 1 < natural p + w
NoValue Corrections p w = w ≡ 1

-- ---- the body of code 5, by places l to r as document 01 writes it

-- "A part l..r with l > r writes nothing. Otherwise m = floor((l + r) / 2); V = hi - low - (r - l) + 1 values are possible;
-- sm - low - (m - l) is written in the fewest bits b with 2^b >= V .. first the middle, then everything left of it, then the right:
-- l..m-1 with low and sm - 1, then m+1..r with sm + 1 and hi." With as many turns as elements.
unfoldable pub places : ℕ → (ℕ → ℕ) → ℕ → ℕ → ℕ → ℕ → List Bool
places zero s l r low hi = []
places (suc turns) s l r low hi =
    elim (ltb r l) [
      | true ↦ []
      | false ↦
          let m = (l + r) / 2 in
          in_bits (width (hi - low - (r - l) + 1)) (s m - low - (m - l)) ++ (places turns s l (m - 1) low (s m - 1) ++ places turns s (m + 1) r (s m + 1) hi)
    ]

-- xs are the elements from place l on
abbrev pub From : (ℕ → ℕ) → ℕ → List ℕ → Type 0
From s l xs = (j : ℕ) → j < length xs → get_or xs j 0 ≡ s (l + j)

-- the rising list by places
abbrev pub riser : List ℕ → ℕ → ℕ
riser ts i = get_or ts (i - 1) 0 + i

-- the lists that a part holds: they rise from low to hi
abbrev pub Rising : ℕ → ℕ → List ℕ → Type 0
Rising low hi [] = Unit {0}
Rising low hi (x ∷ xs) = (low ≤ x) × (x ≤ hi) × Rising (x + 1) hi xs
