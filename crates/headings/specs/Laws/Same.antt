-- A heading is known by what it means, and two answers that are told of what a caller asks for are equal.
use Rattle.std.specs.Prelude.{◌≡◌, refl, Option, Some, None, Result, Ok, Bool, true, false, ℕ, ◌≤◌}
use Rattle.std.proofs.Common.{sym, ap, ap₂, ◌∙◌, arith}
use Rattle.format.specs.Limits.{largest_parameter}
use Rattle.format.specs.Kinds as Kinds
use Rattle.format.specs.Kinds.{Family}
use Rattle.format.specs.Records as Records
use Rattle.format.specs.Writing.{parameter_of}
use Rattle.format.proofs.Laws.Kinds as OfKinds
use Rattle.format.proofs.Laws.Records as OfRecords
use Rattle.format.proofs.Laws.Reading.{told_one}
use Rattle.headings.specs.declared.Code.{Code}
use Rattle.headings.specs.declared.Code.TheVariants.{Gamma, Delta, Rice, VariableByte, Interpolative}
use Rattle.headings.specs.declared.Kind.{Kind}
use Rattle.headings.specs.declared.Kind.TheVariants.{Plain, Instants, Corrections}
use Rattle.headings.specs.declared.Heading.{Heading}
use Rattle.headings.specs.declared.bodies.Words.{Words}
use Rattle.headings.specs.declared.bodies.Words.TheVariants as OfWords
use Rattle.headings.specs.declared.UnknownKind.{UnknownKind}
use Rattle.headings.specs.Bodies as Bodies
use Rattle.headings.specs.Bodies.{unsigned_kind, code_for, ToldBody, InstantsIf, NotIfSigned}
use Rattle.headings.specs.Headings as Headings
use Rattle.headings.specs.Headings.{code_of, carried, kind_of, CodeIs, ToldCode, ToldKind, ToldNumber, Chooses}

code_from : Records.Code → ℕ → Code
code_from Records.Gamma k = Gamma
code_from Records.Delta k = Delta
code_from Records.Rice k = Rice k
code_from Records.VariableByte k = VariableByte
code_from Records.Interpolative k = Interpolative

code_back : (c : Code) → code_from (code_of c) (carried c) ≡ c
unfolding code_from
code_back Gamma = refl
code_back Delta = refl
code_back (Rice k) = refl
code_back VariableByte = refl
code_back Interpolative = refl

-- a code, by what it means and carries
pub code_one : (c d : Code) → code_of c ≡ code_of d → carried c ≡ carried d → c ≡ d
code_one c d e f = sym (code_back c) ∙ ap₂ code_from e f ∙ code_back d

kind_from : Kinds.Kind → Kind
kind_from Kinds.Plain = Plain
kind_from Kinds.Instants = Instants
kind_from Kinds.Corrections = Corrections

kind_back : (t : Kind) → kind_from (kind_of t) ≡ t
unfolding kind_from
kind_back Plain = refl
kind_back Instants = refl
kind_back Corrections = refl

-- a kind, by what it means
pub kind_one : (t u : Kind) → kind_of t ≡ kind_of u → t ≡ u
kind_one t u e = sym (kind_back t) ∙ ap kind_from e ∙ kind_back u

-- a heading, by its code and its kind
pub heading_one : (h g : Heading) → code_of h.code ≡ code_of g.code → carried h.code ≡ carried g.code → kind_of h.kind ≡ kind_of g.kind → h ≡ g
heading_one h g c k t = ap₂ (λ (x : Code) (y : Kind). record { code = x; kind = y }) (code_one h.code g.code c k) (kind_one h.kind g.kind t)

-- ---- one answer

small : {code parameter : ℕ} {c : Code} → CodeIs code parameter c → parameter_of (code_of c) parameter ≤ largest_parameter
small h = omega (arith, h.carries, h.small)

-- two answers of which code a number and a parameter mean are equal
pub code_same : {code parameter : ℕ} {r q : Option Code} → ToldCode code parameter r → ToldCode code parameter q → r ≡ q
code_same {parameter = parameter} (Headings.is {c = c} h) (Headings.is {c = d} l) =
    let e : code_of c ≡ code_of d = OfRecords.code_one (code_of c) (code_of d) (h.number ∙ sym l.number) in
    ap Some (code_one c d e (sym h.carries ∙ ap (λ (x : Records.Code). parameter_of x parameter) e ∙ l.carries))
code_same (Headings.is {c = c} h) (Headings.unknown p) = absurd (p (code_of c) h.number (small h))
code_same (Headings.unknown p) (Headings.is {c = c} h) = absurd (p (code_of c) h.number (small h))
code_same (Headings.unknown p) (Headings.unknown o) = refl

-- two answers of which kind a number means are equal
pub number_same : {number : ℕ} {r q : Result Kind UnknownKind} → ToldNumber number r → ToldNumber number q → r ≡ q
number_same (Headings.is {t = t} e) (Headings.is {t = u} f) = ap Ok (kind_one t u (OfKinds.kind_one (kind_of t) (kind_of u) (e ∙ sym f)))
number_same (Headings.is {t = t} e) (Headings.unknown p) = absurd (p (kind_of t) e)
number_same (Headings.unknown p) (Headings.is {t = t} e) = absurd (p (kind_of t) e)
number_same (Headings.unknown p) (Headings.unknown o) = refl

-- also where it must be one of a family
pub kind_same : {f : Family} {kind : ℕ} {r q : Option Kind} → ToldKind f kind r → ToldKind f kind q → r ≡ q
kind_same (Headings.is {t = t} e) (Headings.is {t = u} f) = ap Some (kind_one t u (told_one e f))
kind_same (Headings.is {t = t} e) (Headings.unknown p) = absurd (p (kind_of t) e)
kind_same (Headings.unknown p) (Headings.is {t = t} e) = absurd (p (kind_of t) e)
kind_same (Headings.unknown p) (Headings.unknown o) = refl

-- two answers of which heading a caller chooses are equal
pub choice_same : {f : Family} {code parameter kind : ℕ} {r q : Option Heading} → Chooses f code parameter kind r → Chooses f code parameter kind q → r ≡ q
choice_same {parameter = parameter} (Headings.is {h = h} x) (Headings.is {h = g} y) =
    let e : code_of h.code ≡ code_of g.code = OfRecords.code_one (code_of h.code) (code_of g.code) (x.chosen.number ∙ sym y.chosen.number) in
    ap Some (heading_one h g e (sym x.carries ∙ ap (λ (c : Records.Code). parameter_of c parameter) e ∙ y.carries) (told_one x.chosen.told y.chosen.told))
choice_same (Headings.is {h = h} x) (Headings.unknown p) = absurd (p (code_of h.code) (kind_of h.kind) x.chosen)
choice_same (Headings.unknown p) (Headings.is {h = h} x) = absurd (p (code_of h.code) (kind_of h.kind) x.chosen)
choice_same (Headings.unknown p) (Headings.unknown o) = refl

-- ---- how the list after it is laid out

body_from : Code → Option Words
body_from Gamma = Some OfWords.Gamma
body_from Delta = Some OfWords.Delta
body_from (Rice k) = Some (OfWords.Rice k)
body_from VariableByte = Some OfWords.VariableByte
body_from Interpolative = None

words_back : (w : Words) → body_from (code_for w) ≡ Some w
unfolding body_from
words_back OfWords.Gamma = refl
words_back OfWords.Delta = refl
words_back (OfWords.Rice k) = refl
words_back OfWords.VariableByte = refl

body_back : {c : Code} {b : Option Words} → ToldBody c b → body_from c ≡ b
unfolding body_from
body_back (Bodies.words {w = w} k e) = ap body_from e ∙ words_back w
body_back (Bodies.halves e) = ap body_from e

pub body_same : {c : Code} {b d : Option Words} → ToldBody c b → ToldBody c d → b ≡ d
body_same x y = sym (body_back x) ∙ body_back y

-- whether a kind is instants
unsigned_one : (a b : Bool) → unsigned_kind a ≡ unsigned_kind b → a ≡ b
unsigned_one true true e = refl
unsigned_one true false e = let z : ◌≡◌ {A = ℕ} 0 1 = cc in absurd (omega arith)
unsigned_one false true e = let z : ◌≡◌ {A = ℕ} 0 1 = cc in absurd (omega arith)
unsigned_one false false e = refl

pub instants_same : (t : Kind) (a b : Bool) → InstantsIf t a → NotIfSigned t a → InstantsIf t b → NotIfSigned t b → a ≡ b
instants_same Plain a b x k y l = unsigned_one a b (sym (x refl) ∙ y refl)
instants_same Instants a b x k y l = unsigned_one a b (sym (x refl) ∙ y refl)
instants_same Corrections a b x k y l = k refl ∙ sym (l refl)
