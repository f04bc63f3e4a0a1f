-- A caller's numbers choose one heading or none.
use Rattle.std.specs.Prelude.{◌≡◌, refl, Option, Some, None, Ok, Err, ℕ, ◌≤◌, ◌<◌}
use Rattle.std.proofs.Common.{sym, ap, ◌∙◌, subst, arith}
use Rattle.format.specs.Limits.{largest_parameter}
use Rattle.format.specs.Kinds as Kinds
use Rattle.format.specs.Kinds.{Unsigned, Signed, kind_number}
use Rattle.format.specs.Records as Records
use Rattle.format.specs.Records.{code_number}
use Rattle.format.specs.Answers.{Told}
use Rattle.format.specs.Writing.{parameter_of}
use Rattle.headings.specs.declared.Code.{Code}
use Rattle.headings.specs.declared.Code.TheVariants.{Gamma, Delta, Rice, VariableByte, Interpolative}
use Rattle.headings.specs.declared.Family.{Family}
use Rattle.headings.specs.declared.Family.TheVariants as OfFamily
use Rattle.headings.specs.declared.UnknownKind.{UnknownKind}
use Rattle.headings.specs.declared.Kind.{Kind}
use Rattle.headings.specs.declared.Kind.TheVariants.{Plain, Instants, Corrections}
use Rattle.headings.specs.Headings as Headings
use Rattle.headings.specs.Headings.{code_of, kind_of, family_meant, ToldCode, ToldKind, ToldNumber, Chooses}

-- ---- the code

pub gamma_is : (code parameter : ℕ) → code ≡ 1 → ToldCode code parameter (Some Gamma)
gamma_is code parameter e = Headings.is {c = Gamma} (record { number = sym e; carries = refl; small = omega arith })

pub delta_is : (code parameter : ℕ) → code ≡ 2 → ToldCode code parameter (Some Delta)
delta_is code parameter e = Headings.is {c = Delta} (record { number = sym e; carries = refl; small = omega arith })

pub rice_is : (code parameter : ℕ) → code ≡ 3 → parameter ≤ largest_parameter → ToldCode code parameter (Some (Rice parameter))
rice_is code parameter e k = Headings.is {c = Rice parameter} (record { number = sym e; carries = refl; small = k })

pub variable_byte_is : (code parameter : ℕ) → code ≡ 4 → ToldCode code parameter (Some VariableByte)
variable_byte_is code parameter e = Headings.is {c = VariableByte} (record { number = sym e; carries = refl; small = omega arith })

pub interpolative_is : (code parameter : ℕ) → code ≡ 5 → ToldCode code parameter (Some Interpolative)
interpolative_is code parameter e = Headings.is {c = Interpolative} (record { number = sym e; carries = refl; small = omega arith })

-- "Rice with k over 31"
pub rice_over : (code parameter : ℕ) → code ≡ 3 → largest_parameter < parameter → ToldCode code parameter None
rice_over code parameter e k = Headings.unknown go
  where
    go : (c : Records.Code) → code_number c ≡ code → parameter_of c parameter ≤ largest_parameter → ⊥
    go Records.Gamma n s = absurd (omega arith)
    go Records.Delta n s = absurd (omega arith)
    go Records.Rice n s = absurd (omega arith)
    go Records.VariableByte n s = absurd (omega arith)
    go Records.Interpolative n s = absurd (omega arith)

-- "code not 1 to 5"
pub no_code : (code parameter : ℕ) → (code ≡ 1 → ⊥) → (code ≡ 2 → ⊥) → (code ≡ 3 → ⊥) → (code ≡ 4 → ⊥) → (code ≡ 5 → ⊥) → ToldCode code parameter None
no_code code parameter a b d e f = Headings.unknown go
  where
    go : (c : Records.Code) → code_number c ≡ code → parameter_of c parameter ≤ largest_parameter → ⊥
    go Records.Gamma n s = a (sym n)
    go Records.Delta n s = b (sym n)
    go Records.Rice n s = d (sym n)
    go Records.VariableByte n s = e (sym n)
    go Records.Interpolative n s = f (sym n)

-- ---- the kind

of_family : {f g : Family} {kind : ℕ} {r : Option Kind} → f ≡ g → ToldKind (family_meant f) kind r → ToldKind (family_meant g) kind r
of_family {kind = kind} {r = r} e h = subst (λ (f : Family). ToldKind (family_meant f) kind r) e h

pub plain_is : (family : Family) (kind : ℕ) → family ≡ OfFamily.Unsigned → kind ≡ 0 → ToldKind (family_meant family) kind (Some Plain)
plain_is family kind b e = of_family (sym b) (Headings.is {t = Plain} (record { number = sym e; family = refl }))

pub instants_is : (family : Family) (kind : ℕ) → family ≡ OfFamily.Unsigned → kind ≡ 1 → ToldKind (family_meant family) kind (Some Instants)
instants_is family kind b e = of_family (sym b) (Headings.is {t = Instants} (record { number = sym e; family = refl }))

pub corrections_is : (family : Family) (kind : ℕ) → family ≡ OfFamily.Signed → kind ≡ 2 → ToldKind (family_meant family) kind (Some Corrections)
corrections_is family kind b e = of_family (sym b) (Headings.is {t = Corrections} (record { number = sym e; family = refl }))

-- "kind wrong for this entry"
pub not_signed : (family : Family) (kind : ℕ) → family ≡ OfFamily.Signed → (kind ≡ 2 → ⊥) → ToldKind (family_meant family) kind None
not_signed family kind b a = of_family (sym b) (Headings.unknown go)
  where
    go : (t : Kinds.Kind) → Told Signed kind t → ⊥
    go Kinds.Plain h = absurd (let z : ◌≡◌ {A = ℕ} 0 1 = cc h.family in omega arith)
    go Kinds.Instants h = absurd (let z : ◌≡◌ {A = ℕ} 0 1 = cc h.family in omega arith)
    go Kinds.Corrections h = a (sym h.number)

pub not_unsigned : (family : Family) (kind : ℕ) → family ≡ OfFamily.Unsigned → (kind ≡ 0 → ⊥) → (kind ≡ 1 → ⊥) → ToldKind (family_meant family) kind None
not_unsigned family kind e a b = of_family (sym e) (Headings.unknown go)
  where
    go : (t : Kinds.Kind) → Told Unsigned kind t → ⊥
    go Kinds.Plain h = a (sym h.number)
    go Kinds.Instants h = b (sym h.number)
    go Kinds.Corrections h = absurd (let z : ◌≡◌ {A = ℕ} 0 1 = cc h.family in omega arith)

-- ---- the kind of a number, in whichever family

pub plain_numbered : (number : ℕ) → number ≡ 0 → ToldNumber number (Ok Plain)
plain_numbered number e = Headings.is {t = Plain} (sym e)

pub instants_numbered : (number : ℕ) → number ≡ 1 → ToldNumber number (Ok Instants)
instants_numbered number e = Headings.is {t = Instants} (sym e)

pub corrections_numbered : (number : ℕ) → number ≡ 2 → ToldNumber number (Ok Corrections)
corrections_numbered number e = Headings.is {t = Corrections} (sym e)

-- "kind 3"
pub none_numbered : (number : ℕ) → (number ≡ 0 → ⊥) → (number ≡ 1 → ⊥) → (number ≡ 2 → ⊥) → (e : UnknownKind) → ToldNumber number (Err e)
none_numbered number a b d e = Headings.unknown go
  where
    go : (t : Kinds.Kind) → kind_number t ≡ number → ⊥
    go Kinds.Plain n = a (sym n)
    go Kinds.Instants n = b (sym n)
    go Kinds.Corrections n = d (sym n)

-- ---- the heading

kind_one : (t : Kinds.Kind) → kind_number t ≡ 1 → t ≡ Kinds.Instants
kind_one Kinds.Plain e = absurd (omega arith)
kind_one Kinds.Instants e = refl
kind_one Kinds.Corrections e = absurd (omega arith)

module _ (f : Kinds.Family) (code parameter kind : ℕ) where
  -- "or code 5 without kind 1"
  pub not_instants : code ≡ 5 → (kind ≡ 1 → ⊥) → Chooses f code parameter kind None
  not_instants e a = Headings.unknown (λ c t h. a (sym h.told.number ∙ ap kind_number (h.instants (five c (h.number ∙ e)))))
    where
      five : (c : Records.Code) → code_number c ≡ 5 → c ≡ Records.Interpolative
      five Records.Gamma n = absurd (omega arith)
      five Records.Delta n = absurd (omega arith)
      five Records.Rice n = absurd (omega arith)
      five Records.VariableByte n = absurd (omega arith)
      five Records.Interpolative n = refl

  pub heading_is : (c : Code) (t : Kind) → (code ≡ 5 → kind ≡ 1) → ToldCode code parameter (Some c) → ToldKind f kind (Some t) → Chooses f code parameter kind (Some (record { code = c; kind = t }))
  heading_is c t a (Headings.is h) (Headings.is l) =
      let i : code_of c ≡ Records.Interpolative → kind_of t ≡ Kinds.Instants = λ e. kind_one (kind_of t) (l.number ∙ a (sym h.number ∙ ap code_number e)) in
      Headings.is {h = record { code = c; kind = t }} (record { chosen = record { number = h.number; small = omega (arith, h.carries, h.small); told = l; instants = i }; carries = h.carries })

  pub code_unknown : ToldCode code parameter None → Chooses f code parameter kind None
  code_unknown (Headings.unknown p) = Headings.unknown (λ c t h. p c h.number h.small)

  pub kind_unknown : ToldKind f kind None → Chooses f code parameter kind None
  kind_unknown (Headings.unknown p) = Headings.unknown (λ c t h. p t h.told)
