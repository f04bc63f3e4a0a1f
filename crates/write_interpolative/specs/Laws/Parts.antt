-- A part's elements by their middle and their halves, and the bits of the three drawn one after the other.
use Rattle.std.specs.Prelude.{◌≡◌, refl, Bool, length, get_or, take}
use Rattle.std.proofs.Common.{sym, ◌∙◌, subst, length-append, length-take, length-drop, take-take, drop-drop, get_or-take}
use Rattle.std.proofs.Math.Path.{ap, ap₂}
use mathlib.Core.List.{List, [], ◌∷◌, ◌++◌, append_assoc}
use Prim.Native.Nat.{ℕ, zero, suc, ◌+◌, ◌-◌, ◌/◌, ◌≤◌, ◌<◌}
use native.Mathlib.Omega.{arith}
use Rattle.std.proofs.Math.ListN.{drop}
use Rattle.std.proofs.Math.Seq.{take-nil, get_or-drop}
use Rattle.layout.specs.Bits.{in_bits}
use Rattle.layout.specs.Layout.{Layout, bind}
use Rattle.layout.proofs.Laws.Bits.{length_in_bits}
use Rattle.format.specs.Interpolative.{width, offset, middle, part, rising}
use Rattle.format.proofs.Laws.Parts.{Node, node, part_node, part_none}
use Rattle.pen.specs.declared.Pen.{Pen}
use Rattle.pen.specs.Pen.{Inside, Drawn}
use Rattle.pen.specs.Laws.Pen.{drawn_both}
use Rattle.write_interpolative.specs.Parts.{elements, image, Ready, Halves}

-- ---- the rising list, cut

rising_take : (i k : ℕ) (ts : List ℕ) → take k (rising i ts) ≡ rising i (take k ts)
rising_take i zero ts = refl
rising_take i (suc k) [] = refl
rising_take i (suc k) (t ∷ ts) = ap (λ (x : List ℕ). (t + i) ∷ x) (rising_take (suc i) k ts)

rising_drop : (i k : ℕ) (ts : List ℕ) → drop k (rising i ts) ≡ rising (i + k) (drop k ts)
rising_drop i zero ts = let e : i ≡ i + 0 = omega arith in ap (λ (j : ℕ). rising j ts) e
rising_drop i (suc k) [] = refl
rising_drop i (suc k) (t ∷ ts) = let e : suc i + k ≡ i + suc k = omega arith in rising_drop (suc i) k ts ∙ ap (λ (j : ℕ). rising j (drop k ts)) e

rising_at : (i k : ℕ) (ts : List ℕ) → k < length ts → get_or (rising i ts) k 0 ≡ get_or ts k 0 + (i + k)
rising_at i k [] h = absurd (omega arith)
rising_at i zero (t ∷ ts) h = omega arith
rising_at i (suc k) (t ∷ ts) h = rising_at (suc i) k ts (omega arith) ∙ omega arith

drop_take : (a b : ℕ) (ts : List ℕ) → drop a (take (a + b) ts) ≡ take b (drop a ts)
drop_take zero b ts = let e : 0 + b ≡ b = omega arith in ap (λ (k : ℕ). take k ts) e
drop_take (suc a) b [] = ap (drop (suc a)) (take-nil (suc a + b)) ∙ sym (take-nil b)
drop_take (suc a) b (t ∷ ts) =
    let e : suc a + b ≡ suc (a + b) = omega arith in
    ap (λ (k : ℕ). drop (suc a) (take k (t ∷ ts))) e ∙ drop_take a b ts

-- ---- the middle and the halves

-- the middle, those left of it and those right
abbrev three_of : ℕ → ℕ → ℕ → ℕ → ℕ → Layout (ℕ × (List ℕ × List ℕ))
three_of low hi i j v = bind (offset (low + i) v) (λ s. bind (part i low (s - 1)) (λ _. part j (s + 1) hi))

pub image_none : (ts : List ℕ) (start low hi : ℕ) → image ts start 0 low hi ≡ []
unfolding image
image_none ts start low hi = ap (λ (L : Layout (List ℕ)). L.bits (elements ts start 0)) (part_none low hi)

module _ (ts : List ℕ) (start n low hi i j v s : ℕ) (g : Node n low hi i j v) (there : start + n ≤ length ts) (here : s ≡ get_or ts (start + i) 0 + (start + i + 1)) where
  left_is : take i (elements ts start n) ≡ elements ts start i
  unfolding elements
  left_is = rising_take (suc start) i (take n (drop start ts)) ∙ ap (rising (suc start)) (take-take i n (drop start ts) (omega (arith, g.sum)))

  right_is : drop (suc i) (elements ts start n) ≡ elements ts (start + i + 1) j
  unfolding elements
  right_is =
      let e : n ≡ suc i + j = omega (arith, g.sum) in
      let f : start + suc i ≡ start + i + 1 = omega arith in
      let a : suc start + suc i ≡ suc (start + i + 1) = omega arith in
      rising_drop (suc start) (suc i) (take n (drop start ts))
      ∙ ap₂ (λ (k : ℕ) (x : List ℕ). rising k x) a
      (ap (λ (k : ℕ). drop (suc i) (take k (drop start ts))) e ∙ drop_take (suc i) j (drop start ts) ∙ ap (take j) (drop-drop (suc i) start ts ∙ ap (λ (k : ℕ). drop k ts) f))

  middle_is : get_or (elements ts start n) i 0 ≡ s
  unfolding elements
  middle_is =
      rising_at (suc start) i (take n (drop start ts)) (simp (length-take, length-drop) (omega (arith, g.sum)))
      ∙ ap (λ (t : ℕ). t + (suc start + i)) (get_or-take n (drop start ts) i 0 (omega (arith, g.sum)) ∙ get_or-drop start ts i 0)
      ∙ omega arith

  same : middle i (elements ts start n) ≡ (s, (elements ts start i, elements ts (start + i + 1) j))
  same = λ q. (middle_is q, (left_is q, right_is q))

  whole_is : image ts start n low hi ≡ in_bits (width v) (s - (low + i)) ++ (image ts start i low (s - 1) ++ image ts (start + i + 1) j (s + 1) hi)
  unfolding image
  whole_is = ap (λ (L : Layout (List ℕ)). L.bits (elements ts start n)) (part_node g) ∙ ap (λ (p : ℕ × (List ℕ × List ℕ)). (three_of low hi i j v).bits p) same

  halves_ok : Ready ts start n low hi → (three_of low hi i j v).ok (s, (elements ts start i, elements ts (start + i + 1) j))
  halves_ok r =
      let k = subst (λ (L : Layout (List ℕ)). L.ok (elements ts start n)) (part_node g) r.ok in
      subst (λ (p : ℕ × (List ℕ × List ℕ)). (three_of low hi i j v).ok p) same k.1

-- what the middle of a part tells of it
pub halves : (ts : List ℕ) (start n low hi s : ℕ) → 1 ≤ n → low + n ≤ hi + 1 → start + n ≤ length ts
    → s ≡ get_or ts (start + (n - 1) / 2) 0 + (start + (n - 1) / 2 + 1) → Ready ts start n low hi
    → Halves ts start n low hi s × (low + (n - 1) / 2 ≤ s) × (s + n / 2 ≤ hi)
halves ts start n low hi s some room there here r =
    let i : ℕ = (n - 1) / 2 in
    let j : ℕ = n / 2 in
    let v : ℕ = hi + 2 - (low + n) in
    let g : Node n low hi i j v = node n low hi some room in
    let h = halves_ok ts start n low hi i j v s g there here r in
    let a = h.0.0.0 in
    let b = h.0.0.1 in
    (record { held = h.0.1; left = record { ok = h.1.0 }; right = record { ok = h.1.1 }; whole = whole_is ts start n low hi i j v s g there here }, a, omega arith)

-- ---- the bits of the middle and of the halves

module _ (ts : List ℕ) (start n low hi s : ℕ) (h : Halves ts start n low hi s) where
  pub halves_length : length (image ts start n low hi)
      ≡ width (hi + 2 - (low + n)) + (length (image ts start ((n - 1) / 2) low (s - 1)) + length (image ts (start + (n - 1) / 2 + 1) (n / 2) (s + 1) hi))
  halves_length = ap length h.whole ∙ simp (length-append, length_in_bits)

  pub halves_drawn : {before middle half after : List ℕ} {pen next further last : Pen} (own : ℕ) → Inside pen (length before) → own ≡ width (hi + 2 - (low + n))
      → Drawn (in_bits own (s - (low + (n - 1) / 2))) before pen middle next
      → Drawn (image ts start ((n - 1) / 2) low (s - 1)) middle next half further
      → Drawn (image ts (start + (n - 1) / 2 + 1) (n / 2) (s + 1) hi) half further after last
      → Drawn (image ts start n low hi) before pen after last
  halves_drawn own fits e p q r =
      let x : List Bool = in_bits own (s - (low + (n - 1) / 2)) in
      let y : List Bool = image ts start ((n - 1) / 2) low (s - 1) in
      let z : List Bool = image ts (start + (n - 1) / 2 + 1) (n / 2) (s + 1) hi in
      drawn_both fits (append_assoc x y z ∙ ap (λ (w : ℕ). in_bits w (s - (low + (n - 1) / 2)) ++ (y ++ z)) e ∙ sym h.whole) (drawn_both fits refl p q) r
