-- Each code's body, by its words or by halves; and which kind is which.
use Rattle.std.specs.Prelude.{◌≡◌, refl, Some, None, Bool, true, false, ℕ, ◌≤◌}
use Rattle.std.proofs.Common.{sym, ap, ◌∙◌, subst, arith}
use Rattle.layout.specs.Layout.{PrefixFree}
use Rattle.format.specs.Limits.{largest_parameter}
use Rattle.format.specs.Codes.{Word}
use Rattle.format.specs.Kinds as Kinds
use Rattle.format.specs.Kinds.{Signed, family_of}
use Rattle.format.specs.Records.{words_by, body}
use Rattle.format.proofs.Laws.Codes.{gamma_free, delta_free, rice_free, variable_byte_free}
use Rattle.headings.specs.Headings.{code_of, carried}
use Rattle.headings.specs.Bodies.{image_by, Known, code_for, ToldBody, words, halves, InstantsIf, NotIfSigned}
use Rattle.headings.specs.declared.Code.{Code}
use Rattle.headings.specs.declared.Code.TheVariants as OfCode
use Rattle.headings.specs.declared.Kind.{Kind}
use Rattle.headings.specs.declared.Kind.TheVariants.{Plain, Instants, Corrections}
use Rattle.headings.specs.declared.bodies.Words.{Words}
use Rattle.headings.specs.declared.bodies.Words.TheVariants.{Gamma, Delta, Rice, VariableByte}

-- ---- which way a code goes

pub rice_body : (c : Code) (k : ℕ) → c ≡ OfCode.Rice k → carried c ≤ largest_parameter → ToldBody c (Some (Rice k))
rice_body c k e h = words {w = Rice k} (subst (λ (x : Code). carried x ≤ largest_parameter) e h) e

pub was_words : {c : Code} {w : Words} → ToldBody c (Some w) → Known w × (c ≡ code_for w)
was_words (words h k) = (h, k)

pub was_halves : {c : Code} → ToldBody c None → c ≡ OfCode.Interpolative
was_halves (halves h) = h

-- a code of words has the words in order as its body
pub words_body : (w : Words) (c : Code) → c ≡ code_for w → (t : Kinds.Kind) (n : ℕ) → body (code_of c) (carried c) t n ≡ words_by (image_by w) t n
words_body w c e t n = ap (λ (x : Code). body (code_of x) (carried x) t n) e ∙ go w
  where
    go : (v : Words) → body (code_of (code_for v)) (carried (code_for v)) t n ≡ words_by (image_by v) t n
    go Gamma = refl
    go Delta = refl
    go (Rice k) = refl
    go VariableByte = refl

-- "a set of words, none the beginning of another"
pub words_free : (w : Words) → PrefixFree Word (image_by w)
words_free Gamma = gamma_free
words_free Delta = delta_free
words_free (Rice k) = rice_free k
words_free VariableByte = variable_byte_free

-- Rice's k, where the words are given as Rice's
pub rice_known : (w : Words) (k : ℕ) → w ≡ Rice k → Known w → k ≤ largest_parameter
rice_known w k e h = subst Known e h

-- words that are Rice's, by the number that k is told as
pub rice_of : {w : Words} {k n : ℕ} → w ≡ Rice k → n ≡ k → w ≡ Rice n
rice_of e f = e ∙ ap Rice (sym f)

-- ---- the kind

instants_as : (b : Bool) (t u : Kind) → t ≡ u → InstantsIf u b → InstantsIf t b
instants_as b t u e h = subst (λ (x : Kind). InstantsIf x b) (sym e) h

pub plain_kind : (t : Kind) → t ≡ Plain → InstantsIf t false
plain_kind t e = instants_as false t Plain e (λ _. refl)

pub instants_kind : (t : Kind) → t ≡ Instants → InstantsIf t true
instants_kind t e = instants_as true t Instants e (λ _. refl)

pub instants_unsigned : (t : Kind) → t ≡ Instants → NotIfSigned t true
instants_unsigned t e = subst (λ (x : Kind). NotIfSigned x true) (sym e) (λ h. let z : ◌≡◌ {A = ℕ} 0 1 = cc h in absurd (omega arith))

pub corrections_kind : (t : Kind) → t ≡ Corrections → InstantsIf t false
corrections_kind t e = instants_as false t Corrections e (λ h. let z : ◌≡◌ {A = ℕ} 0 1 = cc h in absurd (omega arith))

pub signed_corrections : (t : Kinds.Kind) → family_of t ≡ Signed → t ≡ Kinds.Corrections
signed_corrections Kinds.Plain e = let z : ◌≡◌ {A = ℕ} 0 1 = cc e in absurd (omega arith)
signed_corrections Kinds.Instants e = let z : ◌≡◌ {A = ℕ} 0 1 = cc e in absurd (omega arith)
signed_corrections Kinds.Corrections e = refl
