-- What a reader of code 5's body tells of one offset and of a part between two bounds, in one number, and how far it has come.
use Rattle.std.specs.Prelude.{◌≡◌, ◌⊎◌, List, [], ◌∷◌, ◌++◌, map, ℕ, ◌+◌, ◌-◌, ◌*◌, ◌/◌, ℤ, pos}
use Rattle.layout.specs.Layout.{Layout}
use Rattle.format.specs.Kinds.{Instants}
use Rattle.format.specs.Records.{Interpolative, body}
use Rattle.format.specs.Interpolative.{offset, part}
use Rattle.format.specs.Laws.Interpolative.{sinking}
use Rattle.bits.specs.Cursor.{Taken, Refuses}
use Rattle.bits.specs.declared.Cursor.{Cursor}
use Rattle.reading.specs.Reached.{Reached}

-- the body of n instants
abbrev pub instants_of : ℕ → Layout (List ℤ)
instants_of n = body Interpolative 0 Instants n

-- ---- one number as the answer: the next bit, or beyond the stop a refusal's number and bit

-- between two bits that are bare numbers
abbrev pub cursor : ℕ → ℕ → Cursor
cursor at stop = record { at = record { 0 = at }; stop = record { 0 = stop } }

-- cut short, or "an offset >= V"
abbrev pub Halting : ℕ → Type 0
Halting number = (number ≡ 6) ⊎ (number ≡ 9)

-- no bit of a buffer is so large a number
abbrev pub refused_at : ℕ → ℕ → ℕ
refused_at number bit = number * 4294967296 + bit

-- the number is a refusal's
abbrev pub Halted : ℕ → Type 0
Halted next = Halting (next / 4294967296)

-- L is read from bit `at` on: its value is Good, and `next` is the bit after it; or it is refused
pub data ToldNext {A : Type 0} (L : Layout A) (Good : A → Type 0) (s : List ℕ) (at stop next : ℕ) : Type 0 where
  goes : (a : A) → Good a → Taken L s (cursor at stop) a (cursor next stop) → ToldNext L Good s at stop next
  halts : (number bit : ℕ) → Halting number → next ≡ refused_at number bit → Refuses L s (cursor at stop) number (record { 0 = bit }) → ToldNext L Good s at stop next

-- ---- a part's middle, of which document 01 writes only the offset

abbrev pub ToldMiddle : (n low hi element : ℕ) → List ℕ → (at stop next : ℕ) → Type 0
ToldMiddle n low hi element = ToldNext (offset (low + (n - 1) / 2) (hi + 2 - (low + n))) (λ s. s ≡ element)

-- ---- the whole body

-- of n instants the last has been read at c, and the elements of the others before it are left to be read from bit `at` on
pub record LastRead (n others last hi : ℕ) (s : List ℕ) (c : Cursor) (at stop : ℕ) : Type 0 where
  pub reached : Reached (instants_of n) s c (part others 1 hi) (λ xs. map pos (sinking 1 xs ++ last ∷ [])) (cursor at stop)
