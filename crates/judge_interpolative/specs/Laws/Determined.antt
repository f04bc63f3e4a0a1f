-- A part in which only one value is possible, whatever its bounds.
use Rattle.std.specs.Prelude.{◌≡◌, refl, List, ◌∷◌, ◌++◌, ℕ, zero, suc, ◌+◌, ◌-◌, ◌/◌, ◌≤◌, length, replicate}
use Rattle.std.proofs.Common.{sym, ap, ap₂, ◌∙◌, subst, le_refl, arith}
use Rattle.layout.specs.Bits.{in_bits}
use Rattle.layout.specs.Layout.{fixed}
use Rattle.format.specs.Codes.{digits}
use Rattle.format.specs.Interpolative.{width, offset, part, rising}
use Rattle.format.proofs.Laws.Parts.{Node}
use Rattle.format.specs.Laws.Interpolative.{sinking}
use Rattle.bits.specs.Cursor.{Within, Taken}
use Rattle.bits.specs.declared.Cursor.{Cursor}
use Rattle.reading.specs.Laws.Steps.{taken_bind, taken_only}
use Rattle.read_middles.specs.Laws.Parts.{past_middle, no_elements}

-- ---- it takes no bit

width_one : width 1 ≡ 0
unfolding width digits
width_one = refl

-- an offset of which only one is possible
only_offset : (base : ℕ) {s : List ℕ} {c : Cursor} → Within c (length s) → Taken (offset base 1) s c base c
unfolding in_bits
only_offset base {s} {c} w =
    let none : Taken (fixed 0) s c 0 c = record { takes = record { valid = omega arith; front = refl }; within = w; stop = refl } in
    taken_only base (omega arith, omega arith) (omega arith) (subst (λ (k : ℕ). Taken (fixed k) s c 0 c) (sym width_one) none)

-- elements each one above the one before, by one of them
steps_middle : (i j low : ℕ) → rising low (replicate (i + suc j) 0) ≡ rising low (replicate i 0) ++ (low + i) ∷ rising (low + i + 1) (replicate j 0)
steps_middle zero j low =
    let e : zero + suc j ≡ suc j = omega arith in
    let a : 0 + low ≡ low + 0 = omega arith in
    let b : suc low ≡ low + 0 + 1 = omega arith in
    ap (λ (k : ℕ). rising low (replicate k 0)) e ∙ ap₂ (λ (x y : ℕ). x ∷ rising y (replicate j 0)) a b
steps_middle (suc i) j low =
    let e : suc i + suc j ≡ suc (i + suc j) = omega arith in
    let a : suc low + i ≡ low + suc i = omega arith in
    ap (λ (k : ℕ). rising low (replicate k 0)) e
    ∙ ap (λ (l : List ℕ). (0 + low) ∷ l) (steps_middle i j (suc low) ∙ ap (λ (x : ℕ). rising (suc low) (replicate i 0) ++ x ∷ rising (x + 1) (replicate j 0)) a)

determined_in : (turns n low hi : ℕ) {s : List ℕ} {c : Cursor} → n ≤ turns → 1 ≤ low → low + n ≡ hi + 1 → Within c (length s) → Taken (part n low hi) s c (rising low (replicate n 0)) c
determined_in zero zero low hi h o e w = no_elements low hi refl w
determined_in (suc turns) zero low hi h o e w = no_elements low hi refl w
determined_in zero (suc d) low hi h o e w = absurd (omega arith)
determined_in (suc turns) (suc d) low hi {s} {c} h o e w =
    let i : ℕ = d / 2 in
    let j : ℕ = d - d / 2 in
    let a : i + suc j ≡ suc d = omega arith in
    let b : d ≡ suc d - 1 = omega arith in
    let g : Node (suc d) low hi i j 1 = record { sum = omega arith; half = ap (λ (k : ℕ). k / 2) b; room = omega arith; some = le_refl 1 } in
    subst (λ (xs : List ℕ). Taken (part (suc d) low hi) s c xs c) (sym (steps_middle i j low) ∙ ap (λ (k : ℕ). rising low (replicate k 0)) a)
    ((past_middle g w (only_offset (low + i) w)).then (rising low (replicate i 0), rising (low + i + 1) (replicate j 0)) c
    (taken_bind (determined_in turns i low (low + i - 1) (omega arith) o (omega arith) w) (determined_in turns j (low + i + 1) hi (omega arith) (omega arith) (omega arith) w)))

pub determined : (n low hi : ℕ) {s : List ℕ} {c : Cursor} → 1 ≤ low → low + n ≡ hi + 1 → Within c (length s) → Taken (part n low hi) s c (rising low (replicate n 0)) c
determined n low hi = determined_in n n low hi (le_refl n)

-- ---- and what its elements stand for

-- elements each one above the one before stand for equal instants
pub instants_equal : (start n low : ℕ) → sinking (start + 1) (rising low (replicate n 0)) ≡ replicate n (low - (start + 1))
instants_equal start zero low = refl
instants_equal start (suc n) low =
    let a : 0 + low - (start + 1) ≡ low - (start + 1) = omega arith in
    let b : suc (start + 1) ≡ suc start + 1 = omega arith in
    let d : suc low - (suc start + 1) ≡ low - (start + 1) = omega arith in
    ap₂ ◌∷◌ a (ap (λ (k : ℕ). sinking k (rising (suc low) (replicate n 0))) b ∙ instants_equal (suc start) n (suc low) ∙ ap (replicate n) d)
