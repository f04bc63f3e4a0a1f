-- The interpolative body holds exactly the lists of instants that never fall.
use Rattle.std.specs.Prelude.{◌≡◌, refl, List, [], ◌∷◌, ◌++◌, ℕ, zero, suc, ◌+◌, ◌-◌, ◌≤◌, ◌<◌, length, get_or, take}
use Rattle.std.proofs.Common.{sym, ap, ap₂, ◌∙◌, subst, subst₂, le_refl, arith, length-append, take-suc, take_all, take_at, length-take-le}
use Rattle.std.proofs.lemmas.List.{get_or_at}
use Rattle.layout.specs.Layout.{word, made}
use Rattle.layout.specs.Sound.{Sound, Total, Injective}
use Rattle.layout.proofs.Laws.Sound.{word_sound, known_sound, bind_sound, made_sound}
use Rattle.layout.proofs.Laws.Total.{word_total, known_total, bind_total, made_total}
use Rattle.format.specs.Limits.{largest_instant}
use Rattle.format.specs.Codes.{Word, delta}
use Rattle.format.specs.Interpolative.{part, rising, last_and_others, interpolative}
use Rattle.format.specs.Restated.{Rising}
use Rattle.format.specs.Laws.Interpolative.{NeverFalls, sinking}
use Rattle.format.proofs.Laws.Codes.{delta_free, words_search, one_word}
use Rattle.format.proofs.Laws.Parts.{rising_room, part_length, part_sound, part_holds, part_rises, part_total}

-- ---- the rising list

pub length_rising : (i : ℕ) (ts : List ℕ) → length (rising i ts) ≡ length ts
length_rising i [] = refl
length_rising i (t ∷ ts) = ap suc (length_rising (suc i) ts)

never_le : (q d : ℕ) (ts : List ℕ) → d < length ts → NeverFalls q ts → (q ≤ get_or ts d 0) × (get_or ts d 0 ≤ largest_instant)
never_le q d [] l h = absurd (omega arith)
never_le q zero (t ∷ ts) l h = (h.0, h.1)
never_le q (suc d) (t ∷ ts) l h = let k = never_le t d ts (omega arith) h.2 in (omega (arith, h.0), k.1)

never_rises : (i q d : ℕ) (ts : List ℕ) → d < length ts → NeverFalls q ts → Rising (q + suc i) (get_or ts d 0 + i + d) (rising (suc i) (take d ts))
never_rises i q zero ts l h = tt
never_rises i q (suc d) [] l h = absurd (omega arith)
never_rises i q (suc d) (t ∷ ts) l h =
    let k = never_le t d ts (omega arith) h.2 in
    let z : ℕ = get_or ts d 0 in
    let a : t + suc (suc i) ≡ t + suc i + 1 = omega arith in
    let b : z + suc i + d ≡ z + i + suc d = omega arith in
    (omega (arith, h.0), omega arith, subst₂ (λ (x y : ℕ). Rising x y (rising (suc (suc i)) (take d ts))) a b (never_rises (suc i) t d ts (omega arith) h.2))

-- a rising list with more room than it has elements comes of instants that never fall, and of a last one not below them
rises_never : (i q t : ℕ) (ts : List ℕ) → t ≤ largest_instant → q ≤ t → Rising (q + suc i) (t + i + length ts) (rising (suc i) ts) → NeverFalls q (ts ++ t ∷ [])
rises_never i q t [] h l r = (l, h, tt)
rises_never i q t (s ∷ ts) h l r =
    let a = r.0 in
    let z = rising_room (s + suc i) (t + i + suc (length ts)) (rising (suc (suc i)) ts) r.2 r.1 in
    let n = length_rising (suc (suc i)) ts in
    let x : s + suc i + 1 ≡ s + suc (suc i) = omega arith in
    let y : t + i + suc (length ts) ≡ t + suc i + length ts = omega arith in
    (omega arith, omega arith, rises_never (suc i) s t ts h (omega arith) (subst₂ (λ (lo hi : ℕ). Rising lo hi (rising (suc (suc i)) ts)) x y r.2))

-- ---- a list by its last element and the others

apart : (d : ℕ) (ts : List ℕ) → length ts ≡ suc d → ts ≡ take d ts ++ get_or ts d 0 ∷ []
apart d ts h = sym (take_all (suc d) ts (omega arith)) ∙ take-suc ts d 0 (omega arith)

rising_one : (i : ℕ) (b c : List ℕ) → rising i b ≡ rising i c → b ≡ c
rising_one i [] [] e = refl
rising_one i [] (y ∷ c) e = let z : ◌≡◌ {A = ℕ} 0 1 = cc in absurd (omega arith)
rising_one i (x ∷ b) [] e = let z : ◌≡◌ {A = ℕ} 0 1 = cc in absurd (omega arith)
rising_one i (x ∷ b) (y ∷ c) e = let k : x + i ≡ y + i = cc in ap₂ ◌∷◌ (omega arith) (rising_one (suc i) b c (cc))

last_one : (d : ℕ) → Injective (λ (ts : List ℕ). length ts ≡ suc d) (last_and_others d)
last_one d b c h l e =
    apart d b h
    ∙ ap₂ (λ (s : List ℕ) (v : ℕ). s ++ v ∷ []) (rising_one 1 (take d b) (take d c) (ap (λ (p : ℕ × List ℕ). p.1) e)) (ap (λ (p : ℕ × List ℕ). p.0) e)
    ∙ sym (apart d c l)

pub length_sinking : (i : ℕ) (xs : List ℕ) → length (sinking i xs) ≡ length xs
length_sinking i [] = refl
length_sinking i (x ∷ xs) = ap suc (length_sinking (suc i) xs)

pub sinking_append : (i : ℕ) (xs ys : List ℕ) → sinking i (xs ++ ys) ≡ sinking i xs ++ sinking (i + length xs) ys
sinking_append i [] ys = let e : i ≡ i + 0 = omega arith in ap (λ (k : ℕ). sinking k ys) e
sinking_append i (x ∷ xs) ys =
    let e : suc i + length xs ≡ i + suc (length xs) = omega arith in
    ap (λ (l : List ℕ). (x - i) ∷ l) (sinking_append (suc i) xs ys ∙ ap (λ (k : ℕ). sinking (suc i) xs ++ sinking k ys) e)

sinking_back : (i low hi : ℕ) (xs : List ℕ) → i ≤ low → Rising low hi xs → rising i (sinking i xs) ≡ xs
sinking_back i low hi [] h r = refl
sinking_back i low hi (x ∷ xs) h r = let a = r.0 in ap₂ ◌∷◌ (omega arith) (sinking_back (suc i) (x + 1) hi xs (omega arith) r.2)

-- ---- the laws

last_sound : Sound (made (λ (t : ℕ). Unit {0}) (λ t. t + 1) (word Word delta))
last_sound = made_sound (word_sound delta_free) (λ b c h l e. omega arith)

last_total : Total (made (λ (t : ℕ). Unit {0}) (λ t. t + 1) (word Word delta))
last_total = made_total (word_total delta delta_free words_search 1 one_word) (λ a h. let z = h.0 in (a - 1, tt, omega arith))

pub interpolative_sound : (n : ℕ) → Sound (interpolative n)
interpolative_sound zero = known_sound []
interpolative_sound (suc d) = made_sound (bind_sound last_sound (λ t h. part_sound d 1 (t + suc d - 1))) (last_one d)

-- the instants of a last one and of the elements before it
pub last_and_others_lem : (d t : ℕ) (xs : List ℕ) → (part d 1 (t + suc d - 1)).ok xs
    → (length (sinking 1 xs ++ t ∷ []) ≡ suc d) × (last_and_others d (sinking 1 xs ++ t ∷ []) ≡ (t, xs))
last_and_others_lem d t xs k =
    let e : length (sinking 1 xs) ≡ d = length_sinking 1 xs ∙ part_length d 1 (t + suc d - 1) xs k in
    let r = part_rises d 1 (t + suc d - 1) xs (omega arith) k in (
      length-append (sinking 1 xs) (t ∷ []) ∙ omega arith,
      ap₂ (λ (a : ℕ) (b : List ℕ). (a, b)) (get_or_at (sinking 1 xs) t [] 0 d e) (ap (rising 1) (take_at (sinking 1 xs) (t ∷ []) d e) ∙ sinking_back 1 1 (t + suc d - 1) xs (le_refl 1) r),
    )

pub interpolative_total : (n : ℕ) → Total (interpolative n)
interpolative_total zero = known_total []
interpolative_total (suc d) = made_total (bind_total last_total (λ t h. part_total d 1 (t + suc d - 1) (omega arith))) (λ a k. let (h, e) = last_and_others_lem d a.0 a.1 k.1 in (sinking 1 a.1 ++ a.0 ∷ [], h, e))

pub interpolative_holds : (ts : List ℕ) → NeverFalls 0 ts → (interpolative (length ts)).ok ts
interpolative_holds [] h = refl
interpolative_holds (t ∷ ts) h =
    let d : ℕ = length ts in
    let z : ℕ = get_or (t ∷ ts) d 0 in
    let k = never_le 0 d (t ∷ ts) (le_refl _) h in
    let xs : List ℕ = rising 1 (take d (t ∷ ts)) in
    let e : length xs ≡ d = length_rising 1 (take d (t ∷ ts)) ∙ length-take-le d (t ∷ ts) (omega arith) in
    let f : z + 0 + d ≡ z + suc d - 1 = omega arith in
    let r : Rising 1 (z + suc d - 1) xs = subst (λ (y : ℕ). Rising 1 y xs) f (never_rises 0 0 d (t ∷ ts) (le_refl _) h) in
    (refl, ((tt, (omega arith, omega arith)), subst (λ (n : ℕ). (part n 1 (z + suc d - 1)).ok xs) e (part_holds 1 (z + suc d - 1) xs (omega arith) (omega arith) r)))

pub interpolative_never : (n : ℕ) (ts : List ℕ) → (interpolative n).ok ts → (length ts ≡ n) × NeverFalls 0 ts
interpolative_never zero ts h = (ap length h, subst (NeverFalls 0) (sym h) tt)
interpolative_never (suc d) ts h =
    let z : ℕ = get_or ts d 0 in
    let s : List ℕ = take d ts in
    let a = h.1.0.1.1 in
    let e : length s ≡ d = length-take-le d ts (omega arith) in
    let r = part_rises d 1 (z + suc d - 1) (rising 1 s) (omega arith) h.1.1 in
    let f : z + suc d - 1 ≡ z + 0 + length s = omega arith in
    (h.0, subst (NeverFalls 0) (sym (apart d ts h.0)) (rises_never 0 0 z s (omega arith) (omega arith) (subst (λ (y : ℕ). Rising 1 y (rising 1 s)) f r)))
