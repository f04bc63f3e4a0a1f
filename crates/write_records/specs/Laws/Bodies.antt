-- The bodies of the five codes, by the way in which each is written.
use Rattle.std.specs.Prelude.{◌≡◌, refl, List, [], ◌∷◌, map, ℕ, ◌≤◌, ℤ, pos, length}
use Rattle.std.proofs.Common.{sym, ap, ap₂, ◌∙◌, subst, arith}
use Rattle.std.proofs.lemmas.List.{length-map}
use Rattle.layout.specs.Layout.{Layout}
use Rattle.format.specs.Limits.{largest_parameter}
use Rattle.format.specs.Kinds as Kinds
use Rattle.format.specs.Kinds.{Family, Unsigned, family_of, natural, ListOf}
use Rattle.format.specs.Records as Records
use Rattle.format.specs.Records.{Valid, body}
use Rattle.format.specs.Interpolative.{interpolative}
use Rattle.format.specs.Laws.Interpolative.{NeverFalls}
use Rattle.format.proofs.Laws.Bodies.{instants_never}
use Rattle.headings.specs.declared.Code.{Code}
use Rattle.headings.specs.declared.Code.TheVariants.{Gamma, Delta, Rice, VariableByte, Interpolative}
use Rattle.headings.specs.declared.Heading.{Heading}
use Rattle.headings.specs.Headings.{code_of, carried, kind_of, headed}
use Rattle.headings.specs.declared.bodies.Words.{Words}
use Rattle.headings.specs.Bodies.{image_by, code_for}
use Rattle.headings.specs.Laws.Bodies.{words_body}
use Rattle.write_lists.specs.Images.{images}
use Rattle.write_lists.specs.Laws.Images.{body_images}
use Rattle.write_records.specs.Images.{body_image, by_halves}
use Rattle.write_records.specs.Bodies.{ValidFor}

-- ---- a record whose parameter is small enough

pub small_parameter : (h : Heading) (vs : List ℤ) → Valid (headed h vs) → carried h.code ≤ largest_parameter
small_parameter h vs v = go h.code v.parameter.0 v.parameter.1
  where
    go : (c : Code) → (code_of c ≡ Records.Rice → carried c ≤ largest_parameter) → ((code_of c ≡ Records.Rice → ⊥) → carried c ≡ 0) → carried c ≤ largest_parameter
    go Gamma a b = omega arith
    go Delta a b = omega arith
    go (Rice k) a b = a refl
    go VariableByte a b = omega arith
    go Interpolative a b = omega arith

-- ---- word by word

pub words_image : (h : Heading) (vs : List ℤ) (w : Words) → h.code ≡ code_for w → body_image h vs ≡ images (image_by w) (kind_of h.kind) vs
unfolding body_image
words_image h vs w e = ap (λ (L : Layout (List ℤ)). L.bits vs) (words_body w h.code e (kind_of h.kind) (length vs)) ∙ body_images (image_by w) (kind_of h.kind) vs

-- ---- by halves

pub halves_image : (h : Heading) (vs : List ℤ) → h.code ≡ Interpolative → body_image h vs ≡ by_halves vs
unfolding body_image
halves_image h vs e = ap (λ (c : Records.Code). (body c (carried h.code) (kind_of h.kind) (length vs)).bits vs) (ap code_of e)

pub halves_list : (h : Heading) (vs : List ℤ) → Valid (headed h vs) → h.code ≡ Interpolative → ListOf Kinds.Instants (pos 0) vs
halves_list h vs v e = subst (λ (k : Kinds.Kind). ListOf k (pos 0) vs) (v.kind (ap code_of e)) v.values

pub halves_family : {f : Family} (h : Heading) (vs : List ℤ) → ValidFor f h vs → h.code ≡ Interpolative → f ≡ Unsigned
halves_family h vs r e = sym r.family ∙ ap family_of (r.valid.kind (ap code_of e))

-- ---- instants as the numbers that they are

naturals : (xs : List ℕ) → map natural (map pos xs) ≡ xs
naturals [] = refl
naturals (x ∷ xs) = ap (λ (l : List ℕ). x ∷ l) (naturals xs)

pub natural_never : (xs : List ℕ) → ListOf Kinds.Instants (pos 0) (map pos xs) → NeverFalls 0 xs
natural_never xs h = subst (NeverFalls 0) (naturals xs) (instants_never (pos 0) (map pos xs) h).1

pub natural_halves : (xs : List ℕ) → by_halves (map pos xs) ≡ (interpolative (length xs)).bits xs
natural_halves xs = ap₂ (λ (n : ℕ) (l : List ℕ). (interpolative n).bits l) (length-map xs pos) (naturals xs)
