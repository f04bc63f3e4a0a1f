-- The sums of a part's instants.
use Rattle.std.specs.Prelude.{◌≡◌, List, [], ◌∷◌, ◌++◌, ℕ, ◌+◌, ◌-◌, ◌≤◌, length, replicate}
use Rattle.std.proofs.Common.{sym, ◌∙◌, subst, subst₂, arith}
use Rattle.format.specs.Laws.Interpolative.{sinking}
use Rattle.format.proofs.Laws.Interpolative.{length_sinking}
use Rattle.bits.specs.Cursor.{Within}
use Rattle.equal_instants.specs.Sums.{Sums}
use Rattle.equal_instants.specs.Laws.Sums.{sums_none, sums_middle}
use Rattle.read_middles.specs.Parts.{cursor, goes}
use Rattle.read_middles.specs.Laws.Instants.{instants_middle}
use Rattle.read_middles.specs.Laws.Parts.{no_elements}
use Rattle.judge_interpolative.specs.Parts.{ToldPart}
use Rattle.judge_interpolative.specs.Laws.Determined.{determined, instants_equal}

module _ {place sought : ℕ} (start n low hi : ℕ) {s : List ℕ} {at stop : ℕ} (w : Within (cursor at stop) (length s)) where
  pub told_none : n ≡ 0 → ToldPart place sought start n low hi 0 0 s at stop at
  told_none e = goes [] sums_none (no_elements low hi e w)

  pub told_determined : {value less : ℕ} → 1 ≤ low → low + n ≡ hi + 1 → Sums place sought start (replicate n (low - (start + 1))) value less
      → ToldPart place sought start n low hi value less s at stop at
  told_determined {value} {less} o e h = goes _ (subst (λ (ts : List ℕ). Sums place sought start ts value less) (sym (instants_equal start n low)) h) (determined n low hi o e w)

module _ {place sought a b : ℕ} (start i element : ℕ) (own : Sums place sought (start + i) (replicate 1 (element - (start + i + 1))) a b) where
  pub sums_alone : i ≡ 0 → Sums place sought start (sinking (start + 1) (element ∷ [])) a b
  sums_alone e =
      let f : start + i ≡ start = omega arith in
      let g : start + i + 1 ≡ start + 1 = omega arith in
      subst₂ (λ (k m : ℕ). Sums place sought k ((element - m) ∷ []) a b) f g own

  pub sums_both : {value₁ less₁ value₂ less₂ : ℕ} (ls rs : List ℕ) → length ls ≡ i → Sums place sought start (sinking (start + 1) ls) value₁ less₁
      → Sums place sought (start + i + 1) (sinking (start + i + 1 + 1) rs) value₂ less₂
      → Sums place sought start (sinking (start + 1) (ls ++ element ∷ rs)) (value₁ + a + value₂) (less₁ + b + less₂)
  sums_both {value₁} {less₁} {value₂} {less₂} ls rs e l r =
      subst (λ (ts : List ℕ). Sums place sought start ts (value₁ + a + value₂) (less₁ + b + less₂)) (sym (instants_middle start i element ls rs e))
      (sums_middle (length_sinking (start + 1) ls ∙ e) l own r)
