-- The instants of a part in a list: the middle stored first, then those left of it, then those right.
use Rattle.std.specs.Prelude.{◌≡◌, refl, List, [], ◌∷◌, ◌++◌, ℕ, suc, ◌+◌, ◌-◌, ◌≤◌, length, set}
use Rattle.std.proofs.Common.{sym, ap, ap₂, ◌∙◌, arith}
use Rattle.std.proofs.lemmas.List.Edits.{sets}
use Rattle.std.proofs.lemmas.List.{set_comm}
use Rattle.format.specs.Laws.Interpolative.{sinking}
use Rattle.format.proofs.Laws.Interpolative.{length_sinking}
use Rattle.bits.specs.Cursor.{Within}
use Rattle.read_middles.specs.Parts.{cursor, goes}
use Rattle.read_middles.specs.Laws.Instants.{instants_middle}
use Rattle.read_middles.specs.Laws.Parts.{no_elements}
use Rattle.keep_interpolative.specs.Parts.{KeptPart}

pub sets_append : (a b d : List ℕ) (i : ℕ) → sets d i (a ++ b) ≡ sets (sets d i a) (i + length a) b
sets_append [] b d i = let e : i ≡ i + 0 = omega arith in ap (λ (k : ℕ). sets d k b) e
sets_append (x ∷ a) b d i =
    let e : suc i + length a ≡ i + suc (length a) = omega arith in
    sets_append a b (set d i x) (suc i) ∙ ap (λ (k : ℕ). sets (sets (set d i x) (suc i) a) k b) e

-- a store behind others comes before them as well
set_sets : (a d : List ℕ) (i j v : ℕ) → i + length a ≤ j → set (sets d i a) j v ≡ sets (set d j v) i a
set_sets [] d i j v h = refl
set_sets (x ∷ a) d i j v h = set_sets a (set d i x) (suc i) j v (omega arith) ∙ ap (λ (l : List ℕ). sets l (suc i) a) (set_comm d i j x v (λ e. omega arith))

pub kept_none : (start n low hi : ℕ) (list : List ℕ) {s : List ℕ} {at stop : ℕ} → Within (cursor at stop) (length s) → n ≡ 0 → KeptPart start n low hi list list s at stop at
kept_none start n low hi list w e = goes [] refl (no_elements low hi e w)

module _ (start i element : ℕ) (old : List ℕ) {stored : List ℕ} (own : stored ≡ set old (start + i) (element - (start + i + 1))) where
  pub stored_alone : i ≡ 0 → stored ≡ sets old start (sinking (start + 1) (element ∷ []))
  stored_alone e =
      let f : start + i ≡ start = omega arith in
      let g : start + i + 1 ≡ start + 1 = omega arith in
      own ∙ ap₂ (λ (k m : ℕ). set old k (element - m)) f g

  pub stored_both : {with-left with-both : List ℕ} (ls rs : List ℕ) → length ls ≡ i → with-left ≡ sets stored start (sinking (start + 1) ls)
      → with-both ≡ sets with-left (start + i + 1) (sinking (start + i + 1 + 1) rs) → with-both ≡ sets old start (sinking (start + 1) (ls ++ element ∷ rs))
  stored_both {with-left} ls rs e l r =
      let t : ℕ = element - (start + i + 1) in
      let a : List ℕ = sinking (start + 1) ls in
      let b : List ℕ = sinking (start + i + 1 + 1) rs in
      let la : length a ≡ i = length_sinking (start + 1) ls ∙ e in
      let f : start + i ≡ start + length a = omega arith in
      let g : start + i + 1 ≡ suc (start + length a) = omega arith in
      let m : with-left ≡ set (sets old start a) (start + i) t = l ∙ ap (λ (d : List ℕ). sets d start a) own ∙ sym (set_sets a old start (start + i) t (omega arith)) in
      r
      ∙ ap₂ (λ (d : List ℕ) (k : ℕ). sets d k b) (m ∙ ap (λ (k : ℕ). set (sets old start a) k t) f) g
      ∙ sym (sets_append a (t ∷ b) old start)
      ∙ ap (sets old start) (sym (instants_middle start i element ls rs e))
