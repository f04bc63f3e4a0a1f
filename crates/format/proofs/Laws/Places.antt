-- The interpolative body once more, by places l to r as document 01 writes it, and that it is the same.
use Rattle.std.specs.Prelude.{◌≡◌, Bool, length, get_or, take, drop}
use Rattle.std.proofs.Math.Path.{refl}
use Rattle.std.proofs.Common.{sym, ap, ap₂, ◌∙◌, le_refl, arith, length-take, length-drop, get_or-take, get_or-drop, length-take-le}
use Rattle.std.proofs.Math.Bool.{true, false}
use mathlib.Core.List.{List, [], ◌∷◌, ◌++◌}
use Prim.Native.Nat.{ℕ, zero, suc, ◌+◌, ◌-◌, ◌/◌, ◌≤◌, ◌<◌}
use Rattle.std.proofs.Math.Dec.{ltb}
use borrow.Author.Tests.{ltb-true, ltb-false}
use Rattle.layout.specs.Bits.{in_bits}
use Rattle.layout.specs.Layout.{Layout}
use Rattle.format.specs.Codes.{delta}
use Rattle.format.specs.Interpolative.{width, part, rising, interpolative}
use Rattle.format.specs.Restated.{places, From, riser}
use Rattle.format.proofs.Laws.Parts.{part_none, part_step}
use Rattle.format.proofs.Laws.Interpolative.{length_rising}

module _ (turns : ℕ) (s : ℕ → ℕ) (l r low hi : ℕ) where
  abbrev m : ℕ
  m = (l + r) / 2

  places_none : r < l → places turns s l r low hi ≡ []
  unfolding places
  places_none h = go turns
    where
      go : (n : ℕ) → places n s l r low hi ≡ []
      go zero = refl
      go (suc n) = test (ltb r l) refl
        where
          test : (b : Bool) → ltb r l ≡ b → places (suc n) s l r low hi ≡ []
          test true e = rw (e, places)
          test false e = let k = ltb-false r l e in absurd (omega arith)

  places_some : l ≤ r
      → places (suc turns) s l r low hi
      ≡ in_bits (width (hi - low - (r - l) + 1)) (s m - low - (m - l)) ++ (places turns s l (m - 1) low (s m - 1) ++ places turns s (m + 1) r (s m + 1) hi)
  unfolding places
  places_some h = test (ltb r l) refl
    where
      test : (b : Bool) → ltb r l ≡ b
          → places (suc turns) s l r low hi
          ≡ in_bits (width (hi - low - (r - l) + 1)) (s m - low - (m - l)) ++ (places turns s l (m - 1) low (s m - 1) ++ places turns s (m + 1) r (s m + 1) hi)
      test true e = let k = ltb-true r l e in absurd (omega arith)
      test false e = rw (e, places)

same_offset : (x z low i l m : ℕ) → x ≡ z → m ≡ l + i → x - (low + i) ≡ z - low - (m - l)
same_offset x z low i l m e f = omega arith

same_room : (hi low d l r : ℕ) → l + suc d ≡ suc r → hi - low - d + 1 ≡ hi - low - (r - l) + 1
same_room hi low d l r e = omega arith

pub part_places : (turns n : ℕ) (s : ℕ → ℕ) (l r low hi : ℕ) (xs : List ℕ) → 1 ≤ l → n ≤ turns → l + n ≡ suc r → length xs ≡ n → From s l xs
    → (part n low hi).bits xs ≡ places turns s l r low hi
part_places zero zero s l r low hi xs h k o e f = ap (λ (L : Layout (List ℕ)). L.bits xs) (part_none low hi) ∙ sym (places_none 0 s l r low hi (omega arith))
part_places (suc turns) zero s l r low hi xs h k o e f = ap (λ (L : Layout (List ℕ)). L.bits xs) (part_none low hi) ∙ sym (places_none (suc turns) s l r low hi (omega arith))
part_places zero (suc d) s l r low hi xs h k o e f = absurd (omega arith)
part_places (suc turns) (suc d) s l r low hi xs h k o e f =
    let i : ℕ = d / 2 in
    let c : ℕ = (l + r) / 2 in
    let x : ℕ = get_or xs i 0 in
    let ec : c ≡ l + i = omega arith in
    let ex : x ≡ s c = f i (omega arith) ∙ ap s (sym ec) in
    let left = part_places turns i s l (c - 1) low (x - 1) (take i xs) h (omega arith) (omega arith) (length-take-le i xs (omega arith)) (before i c) in
    let right = part_places turns (d - i) s (c + 1) r (x + 1) hi (drop (suc i) xs) (omega arith) (omega arith) (omega arith) (length-drop (suc i) xs ∙ omega arith) (after i c ec) in
    ap (λ (L : Layout (List ℕ)). L.bits xs) (part_step d low hi)
    ∙ ap₂ (λ (a b : List Bool). a ++ b)
    (ap₂ (λ (a b : ℕ). in_bits (width a) b) (same_room hi low d l r o) (same_offset x (s c) low i l c ex ec))
    (ap₂ (λ (a b : List Bool). a ++ b) (left ∙ ap (λ (y : ℕ). places turns s l (c - 1) low (y - 1)) ex) (right ∙ ap (λ (y : ℕ). places turns s (c + 1) r (y + 1) hi) ex))
    ∙ sym (places_some turns s l r low hi (omega arith))
  where
    before : (i c : ℕ) → From s l (take i xs)
    before i c j g =
        let n = length-take i xs in
        get_or-take i xs j 0 (omega arith) ∙ f j (omega arith)

    after : (i c : ℕ) → c ≡ l + i → From s (c + 1) (drop (suc i) xs)
    after i c q j g =
        let n = length-drop (suc i) xs in
        let z : l + (suc i + j) ≡ c + 1 + j = omega arith in
        get_or-drop (suc i) xs j 0 ∙ f (suc i + j) (omega arith) ∙ ap s z

rising_at : (i : ℕ) (ts : List ℕ) (j : ℕ) → j < length (rising i ts) → get_or (rising i ts) j 0 ≡ get_or ts j 0 + (i + j)
rising_at i [] j h = absurd (omega arith)
rising_at i (t ∷ ts) zero h = omega arith
rising_at i (t ∷ ts) (suc j) h = rising_at (suc i) ts j (omega arith) ∙ omega arith

-- "delta of tn + 1, then the elements 1 to n - 1 of the rising list si = ti + i, with low = 1 and hi = sn - 1"
pub interpolative_places : (d : ℕ) (ts : List ℕ) → length ts ≡ suc d
    → (interpolative (suc d)).bits ts ≡ delta (get_or ts d 0 + 1) ++ places d (riser ts) 1 d 1 (riser ts (suc d) - 1)
interpolative_places d ts e =
    let z : suc d - 1 ≡ d = omega arith in
    let n : length (take d ts) ≡ d = length-take-le d ts (omega arith) in
    let m = length_rising 1 (take d ts) in
    ap (λ (l : List Bool). delta (get_or ts d 0 + 1) ++ l)
    (part_places d d (riser ts) 1 d 1 (get_or ts d 0 + suc d - 1) (rising 1 (take d ts)) (le_refl 1) (le_refl d) (omega arith) (m ∙ n) from
    ∙ ap (λ (i : ℕ). places d (riser ts) 1 d 1 (get_or ts i 0 + suc d - 1)) (sym z))
  where
    from : From (riser ts) 1 (rising 1 (take d ts))
    from j h =
        let m = length_rising 1 (take d ts) in
        let n = length-take d ts in
        let z : 1 + j - 1 ≡ j = omega arith in
        rising_at 1 (take d ts) j h ∙ ap (λ (t : ℕ). t + (1 + j)) (get_or-take d ts j 0 (omega arith)) ∙ ap (λ (i : ℕ). get_or ts i 0 + (1 + j)) (sym z)
