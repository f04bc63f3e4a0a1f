-- In each code of a word no word is the beginning of another.
use Rattle.std.specs.Prelude.{◌≡◌, refl, ◌↔◌, Bool, true, List, [], ◌∷◌, ◌++◌, ℕ, zero, suc, ◌+◌, ◌-◌, ◌*◌, ◌/◌, ◌%◌, ◌^◌, ◌≤◌, ◌<◌}
use Rattle.std.proofs.Common.{sym, ap, ap₂, ◌∙◌, append_assoc, mod-eq_of_lt, le_trans, div-one, arith}
use Rattle.std.proofs.Math.Nat.{div-eq_of_lt-le, mod-mod, mod-eq-sub-div-mul, pow-succ', one-le-pow}
use Rattle.std.proofs.Math.Decide.{dec_le}
use Rattle.std.proofs.Math.Arith.{mod-mul}
use Rattle.std.proofs.Math.Pow.{split}
use Rattle.layout.specs.Bits.{odd, in_bits, zeros}
use Rattle.layout.specs.Layout.{PrefixFree, WordNo}
use Rattle.layout.specs.Dead.{Dies}
use Rattle.layout.specs.Sound.{Searchable}
use Rattle.layout.proofs.Laws.Beginnings.{Splits, then, implies, splits_free}
use Rattle.layout.proofs.Laws.Bits.{in_bits_splits}
use Rattle.layout.proofs.Laws.Deciding.{up_to, is_both}
use Rattle.layout.proofs.Laws.Words.{bad_where_dead}
use Rattle.format.specs.Limits.{largest_word}
use Rattle.format.specs.Codes.{Word, digits, size, binary, gamma, delta, rice, groups, variable_byte}
use Rattle.format.specs.Restated.{Held}
use Rattle.format.proofs.Laws.Digits.{digits_held, digits_le}

-- ---- the words can be searched

pub words_search : Searchable Word
words_search P dec = go (up_to largest_word (λ w. (1 ≤ w) × P w) (λ w. is_both (dec_le 1 w) (dec w)))
  where
    go : Dec ((w : ℕ) × (w ≤ largest_word) × ((1 ≤ w) × P w)) → Dec ((w : ℕ) × Word w × P w)
    go (yes (w, h, (l, p))) = yes (w, (l, h), p)
    go (no p) = no (λ (w, h, q). p (w, h.1, (h.0, q)))

pub one_word : Word 1
one_word = (omega arith, omega arith)

-- so, whatever the code, a word is answered 9 exactly where it is dead at some bit
pub nine_where_dead : (image : ℕ → List Bool) → PrefixFree Word image → (w : List Bool) → WordNo Word image w 9 w ↔ ((u : List Bool) × Dies Word image w u)
nine_where_dead image free w = bad_where_dead image free words_search 1 one_word w

-- ---- zeros and a one; then a field whose width they tell

run : (m n : ℕ) (x y : List Bool) → zeros m ++ true ∷ x ≡ zeros n ++ true ∷ y → (m ≡ n) × (x ≡ y)
run zero zero x y e = (refl, cc)
run zero (suc n) x y e = let z : ◌≡◌ {A = ℕ} 0 1 = cc in absurd (omega arith)
run (suc m) zero x y e = let z : ◌≡◌ {A = ℕ} 0 1 = cc in absurd (omega arith)
run (suc m) (suc n) x y e = let h = run m n x y (cc) in (ap suc h.0, h.1)

pub run_splits : (m n : ℕ) → Splits (zeros m ++ true ∷ []) (zeros n ++ true ∷ []) (m ≡ n)
run_splits m n = record { split = λ x y e. run m n x y (simp append_assoc at e) }

-- the shape of gamma, delta and Rice: a head that tells P, and with P the width of the field after it
announced : {u v : List Bool} {P : Type 0} (s t a b : ℕ) → Splits u v P → (P → s ≡ t) → Splits (u ++ in_bits s a) (v ++ in_bits t b) (P × (a % 2 ^ s ≡ b % 2 ^ t))
announced s t a b head same = then head (λ p. rw (same p) (in_bits_splits t a b))

-- ---- gamma

pub sized : {w : ℕ} → Word w → (m : ℕ) × (size w ≡ suc m) × Held 2 w m
unfolding size
sized {w} h = digits_held 2 32 w h.0 (omega arith)

pub lead : {w m : ℕ} → Held 2 w m → w / 2 ^ m ≡ 1
lead {w} {m} h = let a = h.low in let b = h.high in div-eq_of_lt-le (2 ^ m) (omega arith) (omega arith)

-- B(w) begins with a one
pub binary_is : {w m : ℕ} → size w ≡ suc m → Held 2 w m → binary w ≡ true ∷ in_bits m w
unfolding binary in_bits odd
binary_is {w} {m} e h = rw (e, in_bits, lead h) refl

pub gamma_is : {w m : ℕ} → size w ≡ suc m → Held 2 w m → gamma w ≡ (zeros m ++ true ∷ []) ++ in_bits m w
unfolding gamma
gamma_is {w} {m} e h =
    let k : size w - 1 ≡ m = omega arith in
    ap₂ (λ (n : ℕ) (l : List Bool). zeros n ++ l) k (binary_is e h) ∙ sym (append_assoc (zeros m) (true ∷ []) (in_bits m w))

gamma_splits : (w v : ℕ) → Word w → Word v → Splits (gamma w) (gamma v) (w ≡ v)
gamma_splits w v hw hv = go (sized hw) (sized hv)
  where
    go : ((m : ℕ) × (size w ≡ suc m) × Held 2 w m) → ((n : ℕ) × (size v ≡ suc n) × Held 2 v n) → Splits (gamma w) (gamma v) (w ≡ v)
    go (m, e, h) (n, f, l) =
        rw (gamma_is e h, gamma_is f l)
        (implies (λ p. sym (split w m) ∙ cc (lead h, lead l, p.0, p.1) ∙ split v n) (announced m n w v (run_splits m n) (λ p. p)))

pub gamma_free : PrefixFree Word gamma
gamma_free = splits_free gamma_splits

-- ---- delta

pub below_size : {w : ℕ} → Word w → w < 2 ^ size w
below_size hw = let (m, e, h) = sized hw in rw e h.high

pub size_word : {w : ℕ} → Word w → Word (size w)
unfolding size
size_word {w} hw = let (m, e, h) = sized hw in (omega arith, le_trans (digits_le 2 32 w) (omega arith))

pub delta_free : PrefixFree Word delta
unfolding delta binary
delta_free = splits_free (λ w v hw hv.
    implies (λ p. sym (mod-eq_of_lt (below_size hw)) ∙ p.1 ∙ mod-eq_of_lt (below_size hv))
    (announced (size w) (size v) w v (gamma_splits (size w) (size v) (size_word hw) (size_word hv)) (λ p. p)))

-- ---- Rice

rest_is : (k n : ℕ) → (n - n / 2 ^ k * 2 ^ k) % 2 ^ k ≡ n % 2 ^ k
rest_is k n = rw (← mod-eq-sub-div-mul n (2 ^ k)) (mod-mod n (2 ^ k))

pub rice_is : (k w : ℕ) → rice k w ≡ (zeros ((w - 1) / 2 ^ k) ++ true ∷ []) ++ in_bits k (w - 1 - (w - 1) / 2 ^ k * 2 ^ k)
unfolding rice
rice_is k w = sym (append_assoc (zeros ((w - 1) / 2 ^ k)) (true ∷ []) (in_bits k (w - 1 - (w - 1) / 2 ^ k * 2 ^ k)))

pub rice_free : (k : ℕ) → PrefixFree Word (rice k)
rice_free k = splits_free (λ w v hw hv.
    rw (rice_is k w, rice_is k v)
    (implies (λ p. let e : w - 1 ≡ v - 1 = sym (split (w - 1) k) ∙ cc (rest_is k (w - 1), rest_is k (v - 1), p.0, p.1) ∙ split (v - 1) k in omega arith)
    (announced k k _ _ (run_splits ((w - 1) / 2 ^ k) ((v - 1) / 2 ^ k)) (λ p. refl))))

-- ---- variable-byte

top : (g w : ℕ) → w % 128 ^ suc (suc g) ≡ (w / 128 ^ suc g % 128) * 128 ^ suc g + w % 128 ^ suc g
top g w = ap (λ (n : ℕ). w % n) (pow-succ' 128 (suc g)) ∙ mod-mul w (omega arith) (one-le-pow (suc g) 128 (omega arith))

group_tail : (g h w v : ℕ) (x y : List Bool) → groups (suc g) w ++ x ≡ groups (suc h) v ++ y
    → in_bits 7 (w / 128 ^ g) ++ (groups g w ++ x) ≡ in_bits 7 (v / 128 ^ h) ++ (groups h v ++ y)
unfolding groups
group_tail g h w v x y e =
    let t : (in_bits 7 (w / 128 ^ g) ++ groups g w) ++ x ≡ (in_bits 7 (v / 128 ^ h) ++ groups h v) ++ y = cc in
    sym (append_assoc (in_bits 7 (w / 128 ^ g)) (groups g w) x) ∙ t ∙ append_assoc (in_bits 7 (v / 128 ^ h)) (groups h v) y

grouped : (g h w v : ℕ) (x y : List Bool) → groups (suc g) w ++ x ≡ groups (suc h) v ++ y → ((g ≡ h) × (w % 128 ^ suc g ≡ v % 128 ^ suc h)) × (x ≡ y)
unfolding groups
grouped zero zero w v x y e =
    let (p, r) = (in_bits_splits 7 (w / 128 ^ 0) (v / 128 ^ 0)).split x y (group_tail 0 0 w v x y e) in
    ((refl, sym (ap (λ (n : ℕ). n % 128) (div-one w)) ∙ p ∙ ap (λ (n : ℕ). n % 128) (div-one v)), r)
grouped zero (suc h) w v x y e = let z : ◌≡◌ {A = ℕ} 0 1 = cc in absurd (omega arith)
grouped (suc g) zero w v x y e = let z : ◌≡◌ {A = ℕ} 0 1 = cc in absurd (omega arith)
grouped (suc g) (suc h) w v x y e =
    let (p, r) = (in_bits_splits 7 (w / 128 ^ suc g) (v / 128 ^ suc h)).split _ _ (group_tail (suc g) (suc h) w v x y e) in
    let (q, s) = grouped g h w v x y r in
    ((ap suc q.0, top g w ∙ ap₂ (λ (a b : ℕ). a + b) (ap₂ (λ (a b : ℕ). a * b) p (ap (λ (n : ℕ). 128 ^ suc n) q.0)) q.1 ∙ sym (top h v)), s)

pub grouped_word : {w : ℕ} → Word w → (m : ℕ) × (digits 128 5 w ≡ suc m) × Held 128 w m
grouped_word {w} h = digits_held 128 5 w h.0 (omega arith)

pub variable_byte_free : PrefixFree Word variable_byte
unfolding variable_byte
variable_byte_free = splits_free (λ w v hw hv. go w v (grouped_word hw) (grouped_word hv))
  where
    go : (w v : ℕ) → ((m : ℕ) × (digits 128 5 w ≡ suc m) × Held 128 w m) → ((n : ℕ) × (digits 128 5 v ≡ suc n) × Held 128 v n) → Splits (variable_byte w) (variable_byte v) (w ≡ v)
    go w v (m, e, h) (n, f, l) =
        rw (e, f) (record { split = λ x y t. let (p, r) = grouped m n w v x y t in (sym (mod-eq_of_lt h.high) ∙ p.1 ∙ mod-eq_of_lt l.high, r) })
