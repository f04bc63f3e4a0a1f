-- A part of the interpolative body: its equation, that it is made of its middle and its halves, and which lists it holds.
use Rattle.std.specs.Prelude.{◌≡◌, refl, List, [], ◌∷◌, ◌++◌, ℕ, zero, suc, ◌+◌, ◌-◌, ◌/◌, ◌≤◌, ◌<◌, length, get_or, take, drop}
use Rattle.std.proofs.Common.{sym, ap, ap₂, ◌∙◌, subst, append_assoc, le_refl, lt_of_lt_of_le, arith, length-append, take_at, drop_at}
use Rattle.std.proofs.Math.Decide.{dec_lt}
use Rattle.std.proofs.Math.Seq.{split_at}
use Rattle.std.proofs.lemmas.List.{get_or_at}
use Rattle.layout.specs.Layout.{Layout, known, bind, made}
use Rattle.layout.specs.Sound.{Sound, Total, Injective}
use Rattle.layout.proofs.Laws.Sound.{fixed_sound, known_sound, bind_sound, only_sound, made_sound}
use Rattle.layout.proofs.Laws.Total.{Source, fixed_total, known_total, bind_total, only_total, made_total}
use Rattle.format.specs.Limits.{largest_word}
use Rattle.format.specs.Codes.{size}
use Rattle.format.specs.Interpolative.{width, offset, middle, part_in, part}
use Rattle.format.specs.Restated.{Rising}
use Rattle.format.proofs.Laws.Digits.{width_enough}

-- ---- the equation of document 01, whatever the number of turns

-- the middle, then those left of it, then those right
abbrev pub step_of : ℕ → ℕ → ℕ → (ℕ → Layout (List ℕ)) → (ℕ → Layout (List ℕ)) → Layout (List ℕ)
step_of d low hi a b = made (λ xs. length xs ≡ suc d) (middle (d / 2)) (bind (offset (low + d / 2) (hi - low - d + 1)) (λ s. bind (a s) (λ _. b s)))

turns : (f g n low hi : ℕ) → n ≤ f → n ≤ g → part_in f n low hi ≡ part_in g n low hi
turns zero zero n low hi h l = refl
turns zero (suc g) zero low hi h l = refl
turns zero (suc g) (suc n) low hi h l = absurd (omega arith)
turns (suc f) zero zero low hi h l = refl
turns (suc f) zero (suc n) low hi h l = absurd (omega arith)
turns (suc f) (suc g) zero low hi h l = refl
turns (suc f) (suc g) (suc d) low hi h l =
    ap₂ (λ (a : ℕ → Layout (List ℕ)) (b : ℕ → Layout (List ℕ)). step_of d low hi a b)
    (λ j s. turns f g (d / 2) low (s - 1) (omega arith) (omega arith) j)
    (λ j s. turns f g (d - d / 2) (s + 1) hi (omega arith) (omega arith) j)

pub part_none : (low hi : ℕ) → part 0 low hi ≡ known []
unfolding part
part_none low hi = refl

pub part_step : (d low hi : ℕ) → part (suc d) low hi ≡ step_of d low hi (λ s. part (d / 2) low (s - 1)) (λ s. part (d - d / 2) (s + 1) hi)
unfolding part
part_step d low hi = λ j.
    step_of d low hi (λ s. turns d (d / 2) (d / 2) low (s - 1) (omega arith) (omega arith) j)
    (λ s. turns d (d - d / 2) (d - d / 2) (s + 1) hi (omega arith) (omega arith) j)

-- of n elements the middle has i before it and j after it, and v values are possible
pub record Node (n low hi i j v : ℕ) : Type 0 where
  pub sum : n ≡ suc (i + j)
  pub half : i ≡ (n - 1) / 2
  pub room : v + (low + n) ≡ hi + 2
  pub some : 1 ≤ v

pub node : (n low hi : ℕ) → 1 ≤ n → low + n ≤ hi + 1 → Node n low hi ((n - 1) / 2) (n / 2) (hi + 2 - (low + n))
node n low hi h k = record { sum = omega arith; half = refl; room = omega arith; some = omega arith }

abbrev pub node_of : ℕ → ℕ → ℕ → ℕ → ℕ → ℕ → Layout (List ℕ)
node_of n low hi i j v = made (λ xs. length xs ≡ n) (middle i) (bind (offset (low + i) v) (λ s. bind (part i low (s - 1)) (λ _. part j (s + 1) hi)))

pub part_node : {n low hi i j v : ℕ} → Node n low hi i j v → part n low hi ≡ node_of n low hi i j v
part_node {n} {low} {hi} {i} {j} {v} g =
    let a = g.sum in
    let b = g.half in
    let c = g.room in
    let d = g.some in
    let en : suc (n - 1) ≡ n = omega arith in
    let ei : (n - 1) / 2 ≡ i = sym b in
    let ej : n - 1 - (n - 1) / 2 ≡ j = omega arith in
    let ev : hi - low - (n - 1) + 1 ≡ v = omega arith in
    ap (λ (k : ℕ). part k low hi) (sym en) ∙ part_step (n - 1) low hi ∙ (λ q. node_of (en q) low hi (ei q) (ej q) (ev q))

part_ok : {n low hi i j v : ℕ} → Node n low hi i j v → (xs : List ℕ) → (part n low hi).ok xs → (node_of n low hi i j v).ok xs
part_ok g xs h = subst (λ (L : Layout (List ℕ)). L.ok xs) (part_node g) h

none_ok : (low hi : ℕ) (xs : List ℕ) → (part 0 low hi).ok xs → xs ≡ []
none_ok low hi xs h = subst (λ (L : Layout (List ℕ)). L.ok xs) (part_none low hi) h

pub part_length : (n low hi : ℕ) (xs : List ℕ) → (part n low hi).ok xs → length xs ≡ n
part_length zero low hi xs h = ap length (none_ok low hi xs h)
part_length (suc d) low hi xs h = (subst (λ (L : Layout (List ℕ)). L.ok xs) (part_step d low hi) h).0

-- ---- how wide an offset is

pub width_size : (possible : ℕ) → size (possible - 1) ≡ width possible
unfolding size width
width_size possible = refl

-- ---- no list's bits are the beginning of another's

pub offset_sound : (base v : ℕ) → Sound (offset base v)
offset_sound base v = only_sound (fixed_sound (width v)) (λ b c h l e. omega arith)

middle_one : (d : ℕ) → Injective (λ (xs : List ℕ). length xs ≡ suc d) (middle (d / 2))
middle_one d b c h l e =
    split_at b (d / 2) 0 (omega arith)
    ∙ ap (λ (p : ℕ × (List ℕ × List ℕ)). p.1.0 ++ p.0 ∷ p.1.1) e
    ∙ sym (split_at c (d / 2) 0 (omega arith))

part_in_sound : (f n low hi : ℕ) → Sound (part_in f n low hi)
part_in_sound zero n low hi = known_sound []
part_in_sound (suc f) zero low hi = known_sound []
part_in_sound (suc f) (suc d) low hi =
    made_sound (bind_sound (offset_sound _ _) (λ s h. bind_sound (part_in_sound f (d / 2) low (s - 1)) (λ _ k. part_in_sound f (d - d / 2) (s + 1) hi))) (middle_one d)

pub part_sound : (n low hi : ℕ) → Sound (part n low hi)
unfolding part
part_sound n low hi = part_in_sound n n low hi

-- ---- the lists that it holds are those that rise from low to hi

-- as many as are left have room
pub rising_room : (low hi : ℕ) (xs : List ℕ) → Rising (low + 1) hi xs → low ≤ hi → low + length xs ≤ hi
rising_room low hi [] h l = omega arith
rising_room low hi (x ∷ xs) h l = let k = rising_room x hi xs h.2 h.1 in omega arith

record Cut (low hi i : ℕ) (xs : List ℕ) : Type 0 where
  left : Rising low (get_or xs i 0 - 1) (take i xs)
  right : Rising (get_or xs i 0 + 1) hi (drop (suc i) xs)
  above : low + i ≤ get_or xs i 0
  below : get_or xs i 0 + (length xs - suc i) ≤ hi
  lengths : (length (take i xs) ≡ i) × (length (drop (suc i) xs) ≡ length xs - suc i)

cut_at : (low hi i : ℕ) (xs : List ℕ) → i < length xs → Rising low hi xs → Cut low hi i xs
cut_at low hi i [] l h = absurd (omega arith)
cut_at low hi zero (x ∷ xs) l h =
    let k = rising_room x hi xs h.2 h.1 in
    record { left = tt; right = h.2; above = omega arith; below = omega arith; lengths = (refl, omega arith) }
cut_at low hi (suc i) (x ∷ xs) l h =
    let k = cut_at (x + 1) hi i xs (omega arith) h.2 in
    record {
      left = (h.0, omega (arith, k.above), k.left);
      right = k.right;
      above = omega (arith, k.above);
      below = omega (arith, k.below);
      lengths = (ap suc k.lengths.0, k.lengths.1 ∙ omega arith);
    }

no_values : (xs : List ℕ) → length xs ≡ 0 → xs ≡ []
no_values [] e = refl
no_values (x ∷ xs) e = absurd (omega arith)

held : (f n low hi : ℕ) (xs : List ℕ) → n ≤ f → length xs ≡ n → low + n ≤ hi + 1 → hi < low + n + largest_word → Rising low hi xs → (part n low hi).ok xs
held zero zero low hi xs h e o l r = rw (part_none low hi) (no_values xs e)
held zero (suc d) low hi xs h e o l r = absurd (omega arith)
held (suc f) zero low hi xs h e o l r = rw (part_none low hi) (no_values xs e)
held (suc f) (suc d) low hi xs h e o l r =
    let i : ℕ = (suc d - 1) / 2 in
    let j : ℕ = suc d / 2 in
    let v : ℕ = hi + 2 - (low + suc d) in
    let g : Node (suc d) low hi i j v = node (suc d) low hi (omega arith) o in
    let c = cut_at low hi i xs (omega arith) r in
    let s : ℕ = get_or xs i 0 in
    let a = c.above in
    let b = c.below in
    let q : s + j ≤ hi = omega arith in
    let u : s - (low + i) < v = omega arith in
    let z : length (drop (suc i) xs) ≡ j = c.lengths.1 ∙ omega arith in
    rw (part_node g) (
      e,
      (
        ((a, omega arith), lt_of_lt_of_le u (width_enough v g.some (omega arith))),
        (
          held f i low (s - 1) (take i xs) (omega arith) c.lengths.0 (omega arith) (omega arith) c.left,
          held f j (s + 1) hi (drop (suc i) xs) (omega arith) z (omega arith) (omega arith) c.right,
        ),
      ),
    )

pub part_holds : (low hi : ℕ) (xs : List ℕ) → low + length xs ≤ hi + 1 → hi < low + length xs + largest_word → Rising low hi xs → (part (length xs) low hi).ok xs
part_holds low hi xs = held (length xs) (length xs) low hi xs (le_refl _) refl

join : (low s hi : ℕ) (ls rs : List ℕ) → low + length ls ≤ s → s ≤ hi → Rising low (s - 1) ls → Rising (s + 1) hi rs → Rising low hi (ls ++ s ∷ rs)
join low s hi [] rs h l a b = (omega arith, l, b)
join low s hi (x ∷ ls) rs h l a b =
    let k = rising_room x (s - 1) ls a.2 a.1 in
    (a.0, omega (arith, a.1), join (x + 1) s hi ls rs (omega (arith, a.0)) l a.2 b)

rises : (f n low hi : ℕ) (xs : List ℕ) → n ≤ f → low + n ≤ hi + 1 → (part n low hi).ok xs → Rising low hi xs
rises zero zero low hi xs h l k = subst (Rising low hi) (sym (none_ok low hi xs k)) tt
rises zero (suc d) low hi xs h l k = absurd (omega arith)
rises (suc f) zero low hi xs h l k = subst (Rising low hi) (sym (none_ok low hi xs k)) tt
rises (suc f) (suc d) low hi xs h l k =
    let i : ℕ = (suc d - 1) / 2 in
    let j : ℕ = suc d / 2 in
    let v : ℕ = hi + 2 - (low + suc d) in
    let g : Node (suc d) low hi i j v = node (suc d) low hi (omega arith) l in
    let o = part_ok g xs k in
    let s : ℕ = get_or xs i 0 in
    let e = o.0 in
    let a = o.1.0.0.0 in
    let b = o.1.0.0.1 in
    let q : s + j ≤ hi = omega arith in
    let p = part_length i low (s - 1) (take i xs) o.1.1.0 in
    subst (Rising low hi) (sym (split_at xs i 0 (omega arith)))
    (join low s hi (take i xs) (drop (suc i) xs) (omega arith) (omega arith)
    (rises f i low (s - 1) (take i xs) (omega arith) (omega arith) o.1.1.0)
    (rises f j (s + 1) hi (drop (suc i) xs) (omega arith) (omega arith) o.1.1.1))

pub part_rises : (n low hi : ℕ) (xs : List ℕ) → low + n ≤ hi + 1 → (part n low hi).ok xs → Rising low hi xs
part_rises n low hi xs = rises n n low hi xs (le_refl n)

-- ---- every list of bits has its answer

offset_total : (base v : ℕ) → Total (offset base v)
offset_total base v = only_total 9 (fixed_total (width v)) (λ a h. judged a (dec_lt a v))
  where
    judged : (a : ℕ) → Dec (a < v) → Dec (Source (λ s. (base ≤ s) × (s < base + v)) (λ s. s - base) a)
    judged a (yes p) = yes (base + a, (omega arith, omega arith), omega arith)
    judged a (no p) = no (λ (s, g, e). p (omega arith))

-- a list put together again of its middle and its halves
pub middle_join : (i s : ℕ) (ls rs : List ℕ) → length ls ≡ i → middle i (ls ++ s ∷ rs) ≡ (s, (ls, rs))
middle_join i s ls rs e =
    let f : drop (suc i) (ls ++ s ∷ rs) ≡ rs = ap (drop (suc i)) (sym (append_assoc ls (s ∷ []) rs)) ∙ drop_at (ls ++ s ∷ []) rs (suc i) (length-append ls (s ∷ []) ∙ omega arith) in
    ap₂ (λ (a : ℕ) (p : List ℕ × List ℕ). (a, p)) (get_or_at ls s rs 0 i e) (ap₂ (λ (a b : List ℕ). (a, b)) (take_at ls (s ∷ rs) i e) f)

part_totals : (f n low hi : ℕ) → n ≤ f → low + n ≤ hi + 1 → Total (part n low hi)
part_totals zero zero low hi h l = subst Total (sym (part_none low hi)) (known_total [])
part_totals zero (suc d) low hi h l = absurd (omega arith)
part_totals (suc f) zero low hi h l = subst Total (sym (part_none low hi)) (known_total [])
part_totals (suc f) (suc d) low hi h l =
    let i : ℕ = (suc d - 1) / 2 in
    let j : ℕ = suc d / 2 in
    let v : ℕ = hi + 2 - (low + suc d) in
    let g : Node (suc d) low hi i j v = node (suc d) low hi (omega arith) l in
    subst Total (sym (part_node g))
    (made_total
    (bind_total (offset_total (low + i) v) (λ s k. bind_total (part_totals f i low (s - 1) (omega arith) (omega arith)) (λ _ m. part_totals f j (s + 1) hi (omega arith) (omega arith))))
    (λ a k. let p = part_length i low (a.0 - 1) a.1.0 k.1.0 in
    let q = part_length j (a.0 + 1) hi a.1.1 k.1.1 in
    (a.1.0 ++ a.0 ∷ a.1.1, length-append a.1.0 (a.0 ∷ a.1.1) ∙ omega arith, middle_join i a.0 a.1.0 a.1.1 p)))

pub part_total : (n low hi : ℕ) → low + n ≤ hi + 1 → Total (part n low hi)
part_total n low hi = part_totals n n low hi (le_refl n)
