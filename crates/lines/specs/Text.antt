-- The lines that document 01's program prints, as the bytes of their text. Quotations are from document 01: "The program, fed 14 86 94 00, prints
-- the two lines `1 1 0 3 5 5 9` and `end`: code, kind, k (0 unless Rice), count, values."
use Rattle.std.specs.Prelude.{◌≡◌, List, [], ◌∷◌, ◌++◌, ℕ, zero, suc, ◌+◌, ◌*◌, ◌/◌, ◌%◌, ◌≤◌, ◌<◌, ℤ, pos, negsuc, length}
use Prim.Native.Char.{code}
use Prim.Native.String.{String}
use Rattle.std.proofs.Math.Seq.{paste}
use Rattle.format.specs.Limits.{longest_list}
use Rattle.format.specs.Kinds.{kind_number}
use Rattle.format.specs.Records as Records
use Rattle.format.specs.Records.{code_number}

-- the bytes of a text
abbrev pub ascii : String → List ℕ
ascii String.[] = []
ascii (String.◌∷◌ c s) = code c ∷ ascii s

-- that of a digit
abbrev pub digit : ℕ → ℕ
digit n = code "0" + n

-- a number's decimal digits, as few as hold it: one, or those of its tenth and then the last one
pub data Decimal : ℕ → List ℕ → Type 0 where
  one : {n : ℕ} → n < 10 → Decimal n (digit n ∷ [])
  more : {n : ℕ} {t : List ℕ} → 10 ≤ n → Decimal (n / 10) t → Decimal n (t ++ digit (n % 10) ∷ [])

-- the same of an integer: below zero, where `negsuc n` is -(n + 1), a minus stands before its digits
pub data Numeral : ℤ → List ℕ → Type 0 where
  plain : {n : ℕ} {t : List ℕ} → Decimal n t → Numeral (pos n) t
  minus : {n : ℕ} {t : List ℕ} → Decimal (suc n) t → Numeral (negsuc n) (code "-" ∷ t)

-- what follows a number, by how many more stand in its line: a blank, and after the last one the newline that ends it
abbrev pub separator : ℕ → ℕ
separator zero = code "\n"
separator (suc n) = code " "

-- numbers that stand side by side in a line, where `after` more follow them
pub data Numbers (after : ℕ) : List ℤ → List ℕ → Type 0 where
  none : Numbers after [] []
  then : {v : ℤ} {vs : List ℤ} {t ts : List ℕ} → Numeral v t → Numbers after vs ts → Numbers after (v ∷ vs) (t ++ separator (length vs + after) ∷ ts)

-- "code, kind, k (0 unless Rice), count, values"
abbrev pub RecordLine : Records.Record → List ℕ → Type 0
RecordLine r = Numbers 0 (pos (code_number r.code) ∷ pos (kind_number r.kind) ∷ pos r.parameter ∷ pos (length r.values) ∷ r.values)

-- "`end`", which has no numbers
abbrev pub EndLine : List ℕ → Type 0
EndLine text = text ≡ ascii "end\n"

-- "only `refused`, the answer and the bit: fed 00 01, `refused 11 4`"
pub record RefusalLine (answer bit : ℕ) (text : List ℕ) : Type 0 where
  pub numbers : List ℕ
  pub are : Numbers 0 (pos answer ∷ pos bit ∷ []) numbers
  pub whole : text ≡ ascii "refused " ++ numbers

-- room for every line: a number of 32 bits has at most ten digits and what follows them, a value a minus before them; and four numbers stand before the values
abbrev pub longest_line : ℕ
longest_line = 12 * longest_list + 44

-- such a text stands in a buffer from `at` up to `next`, and nothing else has changed
pub record Stands (Text : List ℕ → Type 0) (old : List ℕ) (at : ℕ) (new : List ℕ) (next : ℕ) : Type 0 where
  pub text : List ℕ
  pub is : Text text
  pub after : next ≡ at + length text
  pub left : new ≡ paste old at text (length text)
