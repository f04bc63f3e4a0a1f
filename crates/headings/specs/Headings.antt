-- Which of document 01's codes and kinds a heading means, and what is told of the numbers that a caller gives.
use Rattle.std.specs.Prelude.{◌≡◌, Option, Some, None, Result, Ok, Err, List, ℕ, ◌≤◌, ℤ}
use Rattle.format.specs.Limits.{largest_parameter}
use Rattle.format.specs.Kinds as Kinds
use Rattle.format.specs.Kinds.{kind_number}
use Rattle.format.specs.Records as Records
use Rattle.format.specs.Records.{code_number}
use Rattle.format.specs.Answers.{Told}
use Rattle.format.specs.Writing.{parameter_of, Chosen}
use Rattle.headings.specs.declared.Code.{Code}
use Rattle.headings.specs.declared.Code.TheVariants.{Gamma, Delta, Rice, VariableByte, Interpolative}
use Rattle.headings.specs.declared.Kind.{Kind}
use Rattle.headings.specs.declared.Kind.TheVariants.{Plain, Instants, Corrections}
use Rattle.headings.specs.declared.Heading.{Heading}
use Rattle.headings.specs.declared.Family.{Family}
use Rattle.headings.specs.declared.Family.TheVariants as OfFamily
use Rattle.headings.specs.declared.UnknownKind.{UnknownKind}

-- "1, gamma", "2, delta", "3, Rice", "4, variable-byte", "5, interpolative"
abbrev pub code_of : Code → Records.Code
code_of Gamma = Records.Gamma
code_of Delta = Records.Delta
code_of (Rice k) = Records.Rice
code_of VariableByte = Records.VariableByte
code_of Interpolative = Records.Interpolative

-- "a heading holds the chosen code, and Rice carries its k"; "it is 0 in the record and when told" for a code that has none
abbrev pub carried : Code → ℕ
carried Gamma = 0
carried Delta = 0
carried (Rice k) = k
carried VariableByte = 0
carried Interpolative = 0

-- "for Rice k in 5"
abbrev pub carried_width : Code → ℕ
carried_width Gamma = 0
carried_width Delta = 0
carried_width (Rice k) = 5
carried_width VariableByte = 0
carried_width Interpolative = 0

abbrev pub kind_of : Kind → Kinds.Kind
kind_of Plain = Kinds.Plain
kind_of Instants = Kinds.Instants
kind_of Corrections = Kinds.Corrections

-- the record that a heading and a list make
abbrev pub headed : Heading → List ℤ → Records.Record
headed h vs = record { code = code_of h.code; kind = kind_of h.kind; parameter = carried h.code; values = vs }

-- "Plain and instants share one entry, corrections have their own"
abbrev pub family_meant : Family → Kinds.Family
family_meant OfFamily.Unsigned = Kinds.Unsigned
family_meant OfFamily.Signed = Kinds.Signed

-- the code that a number and a parameter mean, with its parameter; or that they mean none
pub record CodeIs (code parameter : ℕ) (c : Code) : Type 0 where
  pub number : code_number (code_of c) ≡ code
  pub carries : parameter_of (code_of c) parameter ≡ carried c
  pub small : carried c ≤ largest_parameter

pub data ToldCode (code parameter : ℕ) : Option Code → Type 0 where
  is : {c : Code} → CodeIs code parameter c → ToldCode code parameter (Some c)
  unknown : ((c : Records.Code) → code_number c ≡ code → parameter_of c parameter ≤ largest_parameter → ⊥) → ToldCode code parameter None

pub data ToldKind (f : Kinds.Family) (kind : ℕ) : Option Kind → Type 0 where
  is : {t : Kind} → Told f kind (kind_of t) → ToldKind f kind (Some t)
  unknown : ((t : Kinds.Kind) → Told f kind t → ⊥) → ToldKind f kind None

-- the kind that a number means, in whichever family; or that it means none: "kind 3"
pub data ToldNumber (number : ℕ) : Result Kind UnknownKind → Type 0 where
  is : {t : Kind} → kind_number (kind_of t) ≡ number → ToldNumber number (Ok t)
  unknown : ((t : Kinds.Kind) → kind_number t ≡ number → ⊥) → {e : UnknownKind} → ToldNumber number (Err e)

-- the heading that a caller chooses, or that there is none: "4"
pub record HeadingIs (f : Kinds.Family) (code parameter kind : ℕ) (h : Heading) : Type 0 where
  pub chosen : Chosen f code parameter kind (code_of h.code) (kind_of h.kind)
  pub carries : parameter_of (code_of h.code) parameter ≡ carried h.code

pub data Chooses (f : Kinds.Family) (code parameter kind : ℕ) : Option Heading → Type 0 where
  is : {h : Heading} → HeadingIs f code parameter kind h → Chooses f code parameter kind (Some h)
  unknown : ((c : Records.Code) (t : Kinds.Kind) → Chosen f code parameter kind c t → ⊥) → Chooses f code parameter kind None
