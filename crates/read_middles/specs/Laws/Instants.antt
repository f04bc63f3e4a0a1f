-- The instants that a part's elements stand for, the first of them at place `start`.
use Rattle.std.specs.Prelude.{◌≡◌, List, ◌∷◌, ◌++◌, ℕ, suc, ◌+◌, ◌-◌, length}
use Rattle.std.proofs.Common.{ap₂, ◌∙◌, arith}
use Rattle.format.specs.Laws.Interpolative.{sinking}
use Rattle.format.proofs.Laws.Interpolative.{sinking_append}

-- of a middle and of the elements on its two sides
pub instants_middle : (start i x : ℕ) (ls rs : List ℕ) → length ls ≡ i
    → sinking (start + 1) (ls ++ x ∷ rs) ≡ sinking (start + 1) ls ++ (x - (start + i + 1)) ∷ sinking (start + i + 1 + 1) rs
instants_middle start i x ls rs e =
    let a : start + 1 + length ls ≡ start + i + 1 = omega arith in
    let b : suc (start + 1 + length ls) ≡ start + i + 1 + 1 = omega arith in
    sinking_append (start + 1) ls (x ∷ rs) ∙ ap₂ (λ (k m : ℕ). sinking (start + 1) ls ++ (x - k) ∷ sinking m rs) a b
