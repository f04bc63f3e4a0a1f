-- How the list after a heading is laid out.
use Rattle.std.specs.Prelude.{◌≡◌, Option, Some, None, Bool, true, false, List, ℕ, ◌≤◌}
use Rattle.format.specs.Limits.{largest_parameter}
use Rattle.format.specs.Codes.{gamma, delta, rice, variable_byte}
use Rattle.format.specs.Kinds as Kinds
use Rattle.format.specs.Kinds.{Unsigned, Signed, family_of}
use Rattle.headings.specs.Headings.{kind_of}
use Rattle.headings.specs.declared.Code.{Code}
use Rattle.headings.specs.declared.Code.TheVariants as OfCode
use Rattle.headings.specs.declared.Kind.{Kind}
use Rattle.headings.specs.declared.bodies.Words.{Words}
use Rattle.headings.specs.declared.bodies.Words.TheVariants.{Gamma, Delta, Rice, VariableByte}

-- the bits of a word, in each code of words
abbrev pub image_by : Words → ℕ → List Bool
image_by Gamma = gamma
image_by Delta = delta
image_by (Rice k) = rice k
image_by VariableByte = variable_byte

-- "Rice with k from 0 to 31"
abbrev pub Known : Words → Type 0
Known Gamma = Unit {0}
Known Delta = Unit {0}
Known (Rice k) = k ≤ largest_parameter
Known VariableByte = Unit {0}

-- the code that has these words
abbrev pub code_for : Words → Code
code_for Gamma = OfCode.Gamma
code_for Delta = OfCode.Delta
code_for (Rice k) = OfCode.Rice k
code_for VariableByte = OfCode.VariableByte

-- a code of words, with its words; or the interpolative one
pub data ToldBody (c : Code) : Option Words → Type 0 where
  words : {w : Words} → Known w → c ≡ code_for w → ToldBody c (Some w)
  halves : c ≡ OfCode.Interpolative → ToldBody c None

-- the kind of a list whose values are not signed, by whether it is one of instants
abbrev pub unsigned_kind : Bool → Kinds.Kind
unsigned_kind true = Kinds.Instants
unsigned_kind false = Kinds.Plain

-- of the kinds that are not signed, whether it is instants
abbrev pub InstantsIf : Kind → Bool → Type 0
InstantsIf t b = family_of (kind_of t) ≡ Unsigned → kind_of t ≡ unsigned_kind b

-- and corrections are none
abbrev pub NotIfSigned : Kind → Bool → Type 0
NotIfSigned t b = family_of (kind_of t) ≡ Signed → b ≡ false
