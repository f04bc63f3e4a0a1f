-- A list, of which the first values have been read: the one at an asked place, and the list into which they are put.
use Rattle.std.specs.Prelude.{◌≡◌, List, [], ◌∷◌, ◌++◌, map, ℕ, zero, suc, ◌+◌, ◌-◌, ◌<◌, ℤ, pos, length, get_or, drop, set}
use Rattle.std.proofs.Common.{sym, ap, ◌∙◌, append_assoc, add-one, arith, drop-cons}
use Rattle.std.proofs.lemmas.List.{map-append, set_at}
use Rattle.reading.specs.Laws.Naturals.{drop_naturals}

-- ---- the value at a place, which is d until the place is reached

pub kept_more : {A : Type 0} (d : A) (vs : List A) {i place : ℕ} {x old new : A} → length vs ≡ i → (i ≡ place → new ≡ x) → ((i ≡ place → ⊥) → new ≡ old)
    → old ≡ get_or vs place d → new ≡ get_or (vs ++ x ∷ []) place d
kept_more d [] {place = zero} e f g h = f (sym e)
kept_more d [] {place = suc j} e f g h = g (λ k. omega arith) ∙ h
kept_more d (v ∷ vs) {place = zero} e f g h = g (λ k. omega arith) ∙ h
kept_more d (v ∷ vs) {i = i} {place = suc j} e f g h = kept_more d vs {i = i - 1} (omega arith) (λ k. f (omega arith)) (λ k. g (λ l. k (omega arith))) h

-- ---- a list, of which the first i values have been put in

pub stored_more : {A : Type 0} (d : A) (vs old : List A) {i : ℕ} (x : A) → length vs ≡ i → i < length old → set (vs ++ drop i old) i x ≡ (vs ++ x ∷ []) ++ drop (i + 1) old
stored_more {A} d vs old {i} x e h =
    ap (λ (l : List A). set (vs ++ l) i x) (drop-cons old i d h)
    ∙ set_at vs (get_or old i d) (drop (suc i) old) x i e
    ∙ ap (λ (k : ℕ). vs ++ x ∷ drop k old) (sym (add-one i))
    ∙ sym (append_assoc vs (x ∷ []) (drop (i + 1) old))

pub stored_naturals : (ns old : List ℕ) (i : ℕ) {new : List ℕ} → new ≡ ns ++ drop i old → map pos new ≡ map pos ns ++ drop i (map pos old)
stored_naturals ns old i f = ap (map pos) f ∙ map-append pos ns (drop i old) ∙ ap (λ (l : List ℤ). map pos ns ++ l) (drop_naturals i old)
