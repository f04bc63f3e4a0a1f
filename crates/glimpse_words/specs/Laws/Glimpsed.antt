-- Words by their leading zeros, at the top of 64 bits.
use Rattle.std.specs.Prelude.{◌≡◌, refl, Option, Some, Bool, true, false, List, ◌∷◌, ◌++◌, ℕ, zero, suc, ◌+◌, ◌-◌, ◌*◌, ◌/◌, ◌%◌, ◌^◌, ◌≤◌, ◌<◌, length, take, drop}
use Rattle.std.proofs.Common.{sym, ap, ap₂, ◌∙◌, subst, append-nil, mod-lt, div-one, add-mul, one-mul, mul-le-mul_right, arith, pow_pos, pow-add, pow_mono, shr_lt, shr-shr}
use Rattle.std.proofs.Math.Nat.{div-div-eq-div-mul}
use Rattle.std.proofs.Math.Decide.{dec_lt}
use Rattle.std.specs.Int.Count.{count_leading_zeros}
use Rattle.std.proofs.lemmas.Nat.{leading_top, shl-shr}
use Rattle.std.proofs.Math.Pow.{shr_mono, high, field}
use Rattle.layout.specs.Bits.{odd, in_bits, zeros}
use Rattle.layout.specs.Layout.{word}
use Rattle.layout.specs.Laws.Bits.{val}
use Rattle.layout.proofs.Laws.Bits.{front_is, in_bits_split, in_bits_cat, in_bits_mod}
use Rattle.layout.proofs.Laws.Windows.{zeros_lead}
use Rattle.format.specs.Limits.{largest_word}
use Rattle.format.specs.Codes.{Word, size, binary, gamma, delta, rice, groups, variable_byte}
use Rattle.format.proofs.Laws.Codes.{sized, grouped_word}
use Rattle.format.proofs.Laws.Digits.{held_one}
use Rattle.bits.specs.Cursor.{Within, left, onward, Taken}
use Rattle.bits.specs.Laws.Cursor.{length_left, left_front, left_onward, onward_within}
use Rattle.bits.specs.Look.{Looked}
use Rattle.bits.specs.declared.Cursor.{Cursor}
use Rattle.glimpse_words.specs.Glimpsed.{Glimpsed, seen, GlimpsedAt, Settled, settled}
use Rattle.glimpse_words.specs.declared.Glimpse.{Glimpse}

-- a word that was seen, told of the answer
pub seen_as : {image : ℕ → List Bool} {n : ℕ} {r : Option Glimpse} (w bits : ℕ) → Word w → bits ≤ 57 → image w ≡ in_bits bits (n / 2 ^ (64 - bits))
    → r ≡ Some (record { word = w; bits = bits }) → Glimpsed image n r
seen_as w bits v l i e = rw e (seen v l i)

-- ---- the first digits of a number, by its leading zeros

-- the k + 1 digits from its first one on, of which e follow
top_part : (n k e : ℕ) → 2 ^ (k + e) ≤ n → n < 2 ^ suc (k + e) → (2 ^ k ≤ n / 2 ^ e) × (n / 2 ^ e < 2 ^ suc k)
top_part n k e h l =
    let a : 2 ^ (k + e) / 2 ^ e ≡ 2 ^ k = ap (λ (x : ℕ). x / 2 ^ e) (pow-add 2 k e) ∙ shl-shr (2 ^ k) e in
    let b : suc (k + e) ≡ suc k + e = omega arith in
    (subst (λ (x : ℕ). x ≤ n / 2 ^ e) a (shr_mono e h), shr_lt (suc k) e (subst (λ (x : ℕ). n < 2 ^ x) b l))

size_of : (x z : ℕ) → 2 ^ z ≤ x → x < 2 ^ suc z → x < 2 ^ 32 → Word x × (size x ≡ suc z)
size_of x z h l f =
    let p = pow_pos z in
    let w : Word x = (omega arith, omega arith) in
    let (m, e, g) = sized w in
    (w, e ∙ ap suc (held_one {b = 2} (omega arith) g (record { low = h; high = l })))

-- its leading zeros and its first digits
module _ (n : ℕ) (some : 0 < n) (fits : n < 2 ^ 64) where
  pub zeros_few : (m : ℕ) → m < 64 → 2 ^ m ≤ n → count_leading_zeros 64 n ≤ 63 - m
  zeros_few m h l =
      let (j, e, a, b) = leading_top 64 n some fits in
      go j e b (dec_lt j m)
    where
      go : (j : ℕ) → count_leading_zeros 64 n + suc j ≡ 64 → n < 2 ^ suc j → Dec (j < m) → count_leading_zeros 64 n ≤ 63 - m
      go j e b (yes q) = let r : suc j ≤ m = omega arith in let s = pow_mono r in absurd (omega arith)
      go j e b (no q) = omega arith

  first_digits : (z k e : ℕ) → z ≡ count_leading_zeros 64 n → z + suc (k + e) ≡ 64 → (2 ^ k ≤ n / 2 ^ e) × (n / 2 ^ e < 2 ^ suc k)
  first_digits z k e f g =
      let (j, s, a, b) = leading_top 64 n some fits in
      let i : j ≡ k + e = omega arith in
      top_part n k e (subst (λ (x : ℕ). 2 ^ x ≤ n) i a) (subst (λ (x : ℕ). n < 2 ^ suc x) i b)

  pub zeros_to_63 : count_leading_zeros 64 n ≤ 63
  zeros_to_63 = zeros_few 0 (omega arith) some

-- ---- gamma

gamma_whole : (x z : ℕ) → Word x → size x ≡ suc z → gamma x ≡ in_bits (2 * z + 1) x
unfolding gamma binary
gamma_whole x z w e =
    let f : z + suc z ≡ 2 * z + 1 = omega arith in
    let (m, s, g) = sized w in
    let i : m ≡ z = omega arith in
    let j : size x - 1 ≡ z = omega arith in
    ap₂ (λ (a b : ℕ). zeros a ++ in_bits b x) j e
    ∙ sym (zeros_lead z (suc z) (subst (λ (k : ℕ). x < 2 ^ suc k) i g.high))
    ∙ ap (λ (k : ℕ). in_bits k x) f

pub gamma_seen : (n z : ℕ) → 2 ^ 35 ≤ n → n < 2 ^ 64 → z ≡ count_leading_zeros 64 n
    → (z ≤ 28) × Word (n / 2 ^ (64 - (2 * z + 1))) × (gamma (n / 2 ^ (64 - (2 * z + 1))) ≡ in_bits (2 * z + 1) (n / 2 ^ (64 - (2 * z + 1))))
gamma_seen n z h f e =
    let few = zeros_few n (omega arith) f 35 (omega arith) h in
    let d : z + suc (z + (64 - (2 * z + 1))) ≡ 64 = omega arith in
    let (a, b) = first_digits n (omega arith) f z z (64 - (2 * z + 1)) e d in
    let m = pow_mono {i = suc z} {j = 32} (omega arith) in
    let (w, s) = size_of (n / 2 ^ (64 - (2 * z + 1))) z a b (omega arith) in
    (omega arith, w, gamma_whole (n / 2 ^ (64 - (2 * z + 1))) z w s)

pub gamma_within : (n : ℕ) → 2 ^ 35 ≤ n → n < 2 ^ 64 → (count_leading_zeros 64 n ≤ 28) × (n / 2 ^ (64 - (2 * count_leading_zeros 64 n + 1)) ≤ largest_word)
gamma_within n h f = let (few, w, e) = gamma_seen n _ h f refl in (few, w.1)

-- ---- Rice

suc_pow : (z : ℕ) → z + 1 ≤ 2 ^ z
suc_pow zero = omega arith
suc_pow (suc z) = let h = suc_pow z in omega (arith, pow-add 2 z 1)

-- a quotient and a remainder, within a word
rice_word : (z k r : ℕ) → z + 1 + k ≤ 32 → r < 2 ^ k → Word (z * 2 ^ k + r + 1)
rice_word z k r h l =
    let a : (z + 1) * 2 ^ k ≤ 2 ^ z * 2 ^ k = mul-le-mul_right (2 ^ k) (suc_pow z) in
    let b : 2 ^ z * 2 ^ k ≡ 2 ^ (z + k) = sym (pow-add 2 z k) in
    let c = pow_mono {i = z + k} {j = 31} (omega arith) in
    let d : (z + 1) * 2 ^ k ≡ z * 2 ^ k + 2 ^ k = add-mul z 1 (2 ^ k) ∙ ap (λ (x : ℕ). z * 2 ^ k + x) (one-mul (2 ^ k)) in
    (omega arith, omega arith)

rice_whole : (z k r : ℕ) → r < 2 ^ k → rice k (z * 2 ^ k + r + 1) ≡ in_bits (z + 1 + k) (2 ^ k + r)
unfolding rice in_bits odd
rice_whole z k r h =
    let q : (z * 2 ^ k + r + 1 - 1) / 2 ^ k ≡ z = ap (λ (x : ℕ). x / 2 ^ k) (omega arith) ∙ high z k h in
    let l : z * 2 ^ k + r + 1 - 1 - z * 2 ^ k ≡ r = omega arith in
    let s : z + suc k ≡ z + 1 + k = omega arith in
    let w : 2 ^ k + r < 2 ^ suc k = omega (arith, pow-add 2 k 1) in
    let o : 1 * 2 ^ k + r ≡ 2 ^ k + r = ap (λ (x : ℕ). x + r) (one-mul (2 ^ k)) in
    let one : 1 + k ≡ suc k = omega arith in
    ap (λ (x : ℕ). zeros x ++ true ∷ in_bits k (z * 2 ^ k + r + 1 - 1 - x * 2 ^ k)) q
    ∙ ap (λ (x : ℕ). zeros z ++ true ∷ in_bits k x) l
    ∙ ap (λ (x : List Bool). zeros z ++ x) (sym (in_bits_cat 1 k 1 h) ∙ ap₂ (λ (a b : ℕ). in_bits a b) one o)
    ∙ sym (zeros_lead z (suc k) w)
    ∙ ap (λ (x : ℕ). in_bits x (2 ^ k + r)) s

rice_parts : (n z k : ℕ) → 0 < n → n < 2 ^ 64 → z ≡ count_leading_zeros 64 n → z + 1 + k ≤ 32
    → (2 ^ k ≤ n / 2 ^ (64 - (z + 1 + k))) × Word (z * 2 ^ k + (n / 2 ^ (64 - (z + 1 + k)) - 2 ^ k) + 1)
    × (rice k (z * 2 ^ k + (n / 2 ^ (64 - (z + 1 + k)) - 2 ^ k) + 1) ≡ in_bits (z + 1 + k) (n / 2 ^ (64 - (z + 1 + k))))
rice_parts n z k h f e l =
    let d : z + suc (k + (64 - (z + 1 + k))) ≡ 64 = omega arith in
    let (a, b) = first_digits n h f z k (64 - (z + 1 + k)) e d in
    let x : ℕ = n / 2 ^ (64 - (z + 1 + k)) in
    let r : x - 2 ^ k < 2 ^ k = omega (arith, pow-add 2 k 1) in
    let y : 2 ^ k + (x - 2 ^ k) ≡ x = omega arith in
    (a, rice_word z k (x - 2 ^ k) l r, rice_whole z k (x - 2 ^ k) r ∙ ap (in_bits (z + 1 + k)) y)

-- with the power of two as it was computed
pub rice_seen : (n z k one : ℕ) → one ≡ 2 ^ k → 0 < n → n < 2 ^ 64 → z ≡ count_leading_zeros 64 n → z + 1 + k ≤ 32
    → (one ≤ n / 2 ^ (64 - (z + 1 + k))) × Word (z * one + (n / 2 ^ (64 - (z + 1 + k)) - one) + 1)
    × (rice k (z * one + (n / 2 ^ (64 - (z + 1 + k)) - one) + 1) ≡ in_bits (z + 1 + k) (n / 2 ^ (64 - (z + 1 + k))))
rice_seen n z k one p h f e l =
    subst
    (λ (o : ℕ). (o ≤ n / 2 ^ (64 - (z + 1 + k))) × Word (z * o + (n / 2 ^ (64 - (z + 1 + k)) - o) + 1) × (rice k (z * o + (n / 2 ^ (64 - (z + 1 + k)) - o) + 1) ≡ in_bits (z + 1 + k) (n / 2 ^ (64 - (z + 1 + k)))))
    (sym p) (rice_parts n z k h f e l)

pub rice_within : (n k one : ℕ) → one ≡ 2 ^ k → 0 < n → n < 2 ^ 64 → count_leading_zeros 64 n + 1 + k ≤ 32
    → (one ≤ n / 2 ^ (64 - (count_leading_zeros 64 n + 1 + k))) × (count_leading_zeros 64 n * one + (n / 2 ^ (64 - (count_leading_zeros 64 n + 1 + k)) - one) + 1 ≤ largest_word)
rice_within n k one p h f l = let (a, w, e) = rice_seen n _ k one p h f refl l in (a, w.1)

-- ---- variable-byte

-- a group that none follows, after a 0
last_group : (w g : ℕ) → g < 128 → w % 128 ≡ g → groups 1 w ≡ in_bits 8 g
unfolding groups
last_group w g h e =
    ap (λ (x : List Bool). false ∷ x) (append-nil (in_bits 7 (w / 1)) ∙ ap (in_bits 7) (div-one w) ∙ sym (in_bits_mod 7 w) ∙ ap (in_bits 7) e)
    ∙ sym (zeros_lead 1 7 h)

-- a group that others follow, after a 1
front_group : (k w g : ℕ) → 128 ≤ g → g < 256 → w / 128 ^ suc k % 128 ≡ g - 128 → groups (suc (suc k)) w ≡ in_bits 8 g ++ groups (suc k) w
unfolding groups in_bits odd
front_group k w g h l e =
    let a : 1 * 2 ^ 7 + (g - 128) ≡ g = omega arith in
    ap (λ (x : List Bool). true ∷ x ++ groups (suc k) w) (sym (in_bits_mod 7 (w / 128 ^ suc k)) ∙ ap (in_bits 7) e)
    ∙ ap (λ (x : List Bool). x ++ groups (suc k) w) (sym (in_bits_cat 1 7 1 {n = g - 128} (omega arith)) ∙ ap (in_bits 8) a)

-- the word of so many groups
of_groups : (w m : ℕ) → Word w → 128 ^ m ≤ w → w < 128 ^ suc m → variable_byte w ≡ groups (suc m) w
unfolding variable_byte
of_groups w m h low high =
    let (k, e, d) = grouped_word h in
    ap (λ (g : ℕ). groups g w) (e ∙ ap suc (held_one {b = 128} (omega arith) d (record { low = low; high = high })))

two_groups : (w f g : ℕ) → 128 < f → f < 256 → g < 128 → w ≡ (f - 128) * 128 + g → Word w × (variable_byte w ≡ in_bits 8 f ++ in_bits 8 g)
two_groups w f g a b c e =
    let v : Word w = (omega arith, omega arith) in (
      v,
      of_groups w 1 v (omega arith) (omega arith)
          ∙ front_group 0 w f (omega arith) b (omega arith)
          ∙ ap (λ (x : List Bool). in_bits 8 f ++ x) (last_group w g c (omega arith)),
    )

-- the group before the last of three, and the one before that
high_two : (f g : ℕ) → 128 < f → f < 256 → 128 ≤ g → g < 256 → (((f - 128) * 128 + (g - 128)) % 128 ≡ g - 128) × (((f - 128) * 128 + (g - 128)) / 128 % 128 ≡ f - 128)
high_two f g a b c d = (omega arith, omega arith)

three_groups : (w f g h : ℕ) → 128 < f → f < 256 → 128 ≤ g → g < 256 → h < 128 → w ≡ ((f - 128) * 128 + (g - 128)) * 128 + h → Word w × (variable_byte w ≡ in_bits 8 f ++ (in_bits 8 g ++ in_bits 8 h))
three_groups w f g h a b c d l e =
    let v : Word w = (omega arith, omega arith) in
    let (middle, top) = high_two f g a b c d in
    let low : w % 128 ≡ h = omega arith in
    let high : w / 128 ≡ (f - 128) * 128 + (g - 128) = omega arith in
    let above : w / 128 ^ 2 ≡ ((f - 128) * 128 + (g - 128)) / 128 = sym (div-div-eq-div-mul w 128 128) ∙ ap (λ (x : ℕ). x / 128) high in (
      v,
      of_groups w 2 v (omega arith) (omega arith)
          ∙ front_group 1 w f (omega arith) b (ap (λ (x : ℕ). x % 128) above ∙ top)
          ∙ ap (λ (x : List Bool). in_bits 8 f ++ x) (front_group 0 w g c d (ap (λ (x : ℕ). x % 128) high ∙ middle) ∙ ap (λ (x : List Bool). in_bits 8 g ++ x) (last_group w h l low)),
    )

four_groups : (w f g h i : ℕ) → 128 < f → f < 256 → 128 ≤ g → g < 256 → 128 ≤ h → h < 256 → i < 128 → w ≡ (((f - 128) * 128 + (g - 128)) * 128 + (h - 128)) * 128 + i
    → Word w × (variable_byte w ≡ in_bits 8 f ++ (in_bits 8 g ++ (in_bits 8 h ++ in_bits 8 i)))
four_groups w f g h i a b c d j k l e =
    let v : Word w = (omega arith, omega arith) in
    let (middle, top) = high_two f g a b c d in
    let high : w / 128 ≡ ((f - 128) * 128 + (g - 128)) * 128 + (h - 128) = omega arith in
    let third : (((f - 128) * 128 + (g - 128)) * 128 + (h - 128)) % 128 ≡ h - 128 = omega arith in
    let two : (((f - 128) * 128 + (g - 128)) * 128 + (h - 128)) / 128 ≡ (f - 128) * 128 + (g - 128) = omega arith in
    let above : w / 128 ^ 2 ≡ (f - 128) * 128 + (g - 128) = sym (div-div-eq-div-mul w 128 128) ∙ ap (λ (x : ℕ). x / 128) high ∙ two in
    let first : w / 128 ^ 3 ≡ ((f - 128) * 128 + (g - 128)) / 128 = sym (div-div-eq-div-mul w 16384 128) ∙ ap (λ (x : ℕ). x / 128) above in (
      v,
      of_groups w 3 v (omega arith) (omega arith)
          ∙ front_group 2 w f (omega arith) b (ap (λ (x : ℕ). x % 128) first ∙ top)
          ∙ ap (λ (x : List Bool). in_bits 8 f ++ x)
          (front_group 1 w g c d (ap (λ (x : ℕ). x % 128) above ∙ middle)
          ∙ ap (λ (x : List Bool). in_bits 8 g ++ x) (front_group 0 w h j k (ap (λ (x : ℕ). x % 128) high ∙ third) ∙ ap (λ (x : List Bool). in_bits 8 h ++ x) (last_group w i l (omega arith)))),
    )

-- a byte before k bits
byte_before : (k y : ℕ) → in_bits 8 (y / 2 ^ k % 256) ++ in_bits k y ≡ in_bits (8 + k) y
byte_before k y = ap (λ (x : List Bool). x ++ in_bits k y) (in_bits_mod 8 (y / 2 ^ k)) ∙ sym (in_bits_split 8 k y)

-- the bytes at the front of 64 bits
two_bytes : (y : ℕ) → in_bits 8 (y / 2 ^ 8) ++ in_bits 8 (y % 2 ^ 8) ≡ in_bits 16 y
two_bytes y = ap (λ (x : List Bool). in_bits 8 (y / 2 ^ 8) ++ x) (in_bits_mod 8 y) ∙ sym (in_bits_split 8 8 y)

module _ {n : ℕ} {r : Option Glimpse} where
  pub group_seen : 0 < n / 2 ^ 56 → n / 2 ^ 56 < 128 → r ≡ Some (record { word = n / 2 ^ 56; bits = 8 }) → Glimpsed variable_byte n r
  group_seen h l e =
      let g : ℕ = n / 2 ^ 56 in
      let v : Word g = (h, omega arith) in
      seen_as g 8 v (omega arith) (of_groups g 0 v h (omega arith) ∙ last_group g g l (omega arith)) e

  -- the first group is one that others follow
  module _ (h : (128 < n / 2 ^ 56) × (n / 2 ^ 56 < 256)) where
    pub two_seen : n / 2 ^ 48 % 256 < 128 → r ≡ Some (record { word = (n / 2 ^ 56 - 128) * 128 + n / 2 ^ 48 % 256; bits = 16 }) → Glimpsed variable_byte n r
    two_seen l e =
        let (v, i) = two_groups _ (n / 2 ^ 56) (n / 2 ^ 48 % 256) h.0 h.1 l refl in
        seen_as _ 16 v (omega arith) (i ∙ ap (λ (x : ℕ). in_bits 8 x ++ in_bits 8 (n / 2 ^ 48 % 256)) (sym (shr-shr n 48 8)) ∙ two_bytes (n / 2 ^ 48)) e

    pub three_seen : 128 ≤ n / 2 ^ 48 % 256 → n / 2 ^ 40 % 256 < 128 → r ≡ Some (record { word = ((n / 2 ^ 56 - 128) * 128 + (n / 2 ^ 48 % 256 - 128)) * 128 + n / 2 ^ 40 % 256; bits = 24 }) → Glimpsed variable_byte n r
    three_seen m l e =
        let y : ℕ = n / 2 ^ 40 in
        let (v, i) = three_groups _ (n / 2 ^ 56) (n / 2 ^ 48 % 256) (y % 256) h.0 h.1 m (mod-lt (n / 2 ^ 48) (omega arith)) l refl in
        let whole =
        i
        ∙ ap₂ (λ (a b : ℕ). in_bits 8 a ++ (in_bits 8 (b % 256) ++ in_bits 8 (y % 256))) (sym (shr-shr n 40 16)) (sym (shr-shr n 40 8))
        ∙ ap (λ (x : List Bool). in_bits 8 (y / 2 ^ 16) ++ x) (ap (λ (x : List Bool). x ++ in_bits 8 (y % 256)) (in_bits_mod 8 (y / 2 ^ 8)) ∙ two_bytes y)
        ∙ sym (in_bits_split 8 16 y) in
        seen_as _ 24 v (omega arith) whole e

    pub four_seen : 128 ≤ n / 2 ^ 48 % 256 → 128 ≤ n / 2 ^ 40 % 256 → n / 2 ^ 32 % 256 < 128
        → r ≡ Some (record { word = (((n / 2 ^ 56 - 128) * 128 + (n / 2 ^ 48 % 256 - 128)) * 128 + (n / 2 ^ 40 % 256 - 128)) * 128 + n / 2 ^ 32 % 256; bits = 32 }) → Glimpsed variable_byte n r
    four_seen m p l e =
        let y : ℕ = n / 2 ^ 32 in
        let (v, i) = four_groups _ (n / 2 ^ 56) (n / 2 ^ 48 % 256) (n / 2 ^ 40 % 256) (y % 256) h.0 h.1 m (mod-lt (n / 2 ^ 48) (omega arith)) p (mod-lt (n / 2 ^ 40) (omega arith)) l refl in
        let last : in_bits 8 (n / 2 ^ 40 % 256) ++ in_bits 8 (y % 256) ≡ in_bits 16 y =
        ap₂ (λ (a : ℕ) (x : List Bool). in_bits 8 (a % 256) ++ x) (sym (shr-shr n 32 8)) (in_bits_mod 8 y) ∙ byte_before 8 y in
        let three : in_bits 8 (n / 2 ^ 48 % 256) ++ (in_bits 8 (n / 2 ^ 40 % 256) ++ in_bits 8 (y % 256)) ≡ in_bits 24 y =
        ap₂ (λ (a : ℕ) (x : List Bool). in_bits 8 (a % 256) ++ x) (sym (shr-shr n 32 16)) last ∙ byte_before 16 y in
        seen_as _ 32 v (omega arith) (i ∙ ap₂ (λ (a : ℕ) (x : List Bool). in_bits 8 a ++ x) (sym (shr-shr n 32 24)) three ∙ sym (in_bits_split 8 24 y)) e

-- ---- delta

pub length_seen : (n z : ℕ) → 2 ^ 58 ≤ n → n < 2 ^ 64 → z ≡ count_leading_zeros 64 n
    → (z ≤ 5) × (1 ≤ n / 2 ^ (64 - (2 * z + 1))) × (n / 2 ^ (64 - (2 * z + 1)) ≤ 63) × (gamma (n / 2 ^ (64 - (2 * z + 1))) ≡ in_bits (2 * z + 1) (n / 2 ^ (64 - (2 * z + 1))))
length_seen n z h f e =
    let few = zeros_few n (omega arith) f 58 (omega arith) h in
    let d : z + suc (z + (64 - (2 * z + 1))) ≡ 64 = omega arith in
    let (a, b) = first_digits n (omega arith) f z z (64 - (2 * z + 1)) e d in
    let m = pow_mono {i = suc z} {j = 6} (omega arith) in
    let (w, s) = size_of (n / 2 ^ (64 - (2 * z + 1))) z a b (omega arith) in
    (omega arith, w.0, omega arith, gamma_whole (n / 2 ^ (64 - (2 * z + 1))) z w s)

pub length_within : (n : ℕ) → 2 ^ 58 ≤ n → n < 2 ^ 64
    → (count_leading_zeros 64 n ≤ 5) × (1 ≤ n / 2 ^ (64 - (2 * count_leading_zeros 64 n + 1))) × (n / 2 ^ (64 - (2 * count_leading_zeros 64 n + 1)) ≤ 63)
length_within n h f = let (few, some, most, e) = length_seen n _ h f refl in (few, some, most)

-- what stands after the first a of 64 digits, moved to their top: its first l digits, of which e follow
moved_digits : (n a l e : ℕ) → a + (l + e) ≡ 64 → n * 2 ^ a % 2 ^ 64 / 2 ^ (64 - l) ≡ n / 2 ^ e % 2 ^ l
moved_digits n a l e h =
    let i : 64 ≡ (l + e) + a = omega arith in
    let j : 64 - l ≡ a + e = omega arith in
    let moved : n * 2 ^ a % 2 ^ (l + e + a) / 2 ^ a ≡ n % 2 ^ (l + e) = field (n * 2 ^ a) (l + e) a ∙ ap (λ (x : ℕ). x % 2 ^ (l + e)) (shl-shr n a) in
    ap₂ (λ (x y : ℕ). n * 2 ^ a % 2 ^ x / 2 ^ y) i j
    ∙ sym (shr-shr (n * 2 ^ a % 2 ^ (l + e + a)) a e)
    ∙ ap (λ (x : ℕ). x / 2 ^ e) moved
    ∙ field n l e

-- a number whose top digit is a one has it first among its first l digits
top_one : (d l : ℕ) → 1 ≤ l → l ≤ 64 → 2 ^ 63 ≤ d → 2 ^ (l - 1) ≤ d / 2 ^ (64 - l)
top_one d l p q h =
    let i : 63 ≡ (l - 1) + (64 - l) = omega arith in
    let a : 2 ^ 63 / 2 ^ (64 - l) ≡ 2 ^ (l - 1) = ap (λ (x : ℕ). 2 ^ x / 2 ^ (64 - l)) i ∙ ap (λ (x : ℕ). x / 2 ^ (64 - l)) (pow-add 2 (l - 1) (64 - l)) ∙ shl-shr (2 ^ (l - 1)) (64 - l) in
    subst (λ (x : ℕ). x ≤ d / 2 ^ (64 - l)) a (shr_mono (64 - l) h)

delta_whole : (n z l w : ℕ) → z ≤ 5 → l ≡ n / 2 ^ (64 - (2 * z + 1)) → 1 ≤ l → l ≤ 32 → gamma l ≡ in_bits (2 * z + 1) l → w ≡ n / 2 ^ (64 - (2 * z + 1 + l)) % 2 ^ l → 2 ^ (l - 1) ≤ w
    → Word w × (delta w ≡ in_bits (2 * z + 1 + l) (n / 2 ^ (64 - (2 * z + 1 + l))))
unfolding delta binary
delta_whole n z l w a e p q g d h =
    let y : ℕ = n / 2 ^ (64 - (2 * z + 1 + l)) in
    let j : suc (l - 1) ≡ l = omega arith in
    let b : w < 2 ^ l = subst (λ (x : ℕ). x < 2 ^ l) (sym d) (mod-lt y (pow_pos l)) in
    let m = pow_mono {i = l} {j = 32} (omega arith) in
    let (k, s) = size_of w (l - 1) h (subst (λ (x : ℕ). w < 2 ^ x) (sym j) b) (omega arith) in
    let t : 64 - (2 * z + 1 + l) + l ≡ 64 - (2 * z + 1) = omega arith in
    let u : y / 2 ^ l ≡ l = shr-shr n (64 - (2 * z + 1 + l)) l ∙ ap (λ (x : ℕ). n / 2 ^ x) t ∙ sym e in (
      k,
      ap (λ (x : ℕ). gamma x ++ in_bits x w) (s ∙ j)
          ∙ ap₂ (λ (x v : List Bool). x ++ v) (g ∙ ap (in_bits (2 * z + 1)) (sym u)) (ap (in_bits l) d ∙ in_bits_mod l y)
          ∙ sym (in_bits_split (2 * z + 1) l y),
    )

-- with the digits after the length moved to the top
pub delta_seen : (n z l d : ℕ) → z ≤ 5 → l ≡ n / 2 ^ (64 - (2 * z + 1)) → 1 ≤ l → l ≤ 32 → gamma l ≡ in_bits (2 * z + 1) l → d ≡ n * 2 ^ (2 * z + 1) % 2 ^ 64 → 2 ^ 63 ≤ d
    → Word (d / 2 ^ (64 - l)) × (delta (d / 2 ^ (64 - l)) ≡ in_bits (2 * z + 1 + l) (n / 2 ^ (64 - (2 * z + 1 + l))))
delta_seen n z l d a e p q g f h =
    let i : (2 * z + 1) + (l + (64 - (2 * z + 1 + l))) ≡ 64 = omega arith in
    let m = ap (λ (x : ℕ). x / 2 ^ (64 - l)) f ∙ moved_digits n (2 * z + 1) l (64 - (2 * z + 1 + l)) i in
    delta_whole n z l (d / 2 ^ (64 - l)) a e p q g m (top_one d l p (omega arith) h)

pub delta_within : (n : ℕ) → 2 ^ 58 ≤ n → n < 2 ^ 64 → n / 2 ^ (64 - (2 * count_leading_zeros 64 n + 1)) ≤ 32 → 2 ^ 63 ≤ n * 2 ^ (2 * count_leading_zeros 64 n + 1) % 2 ^ 64
    → n * 2 ^ (2 * count_leading_zeros 64 n + 1) % 2 ^ 64 / 2 ^ (64 - n / 2 ^ (64 - (2 * count_leading_zeros 64 n + 1))) ≤ largest_word
delta_within n h f l d =
    let (few, some, most, image) = length_seen n _ h f refl in
    let (w, e) = delta_seen n _ _ _ few refl some l image refl d in
    w.1

-- ---- a word that was seen stands at the cursor

module _ {image : ℕ → List Bool} (s : List ℕ) (c : Cursor) (h : Within c (length s)) (g : Glimpse) (room : g.bits ≤ c.stop.0 - c.at.0) where
  seen_taken : (n : ℕ) → Looked s c.at.0 n → Glimpsed image n (Some g) → Settled image s c (Some g)
  seen_taken n look (seen v l i) =
      let first : n / 2 ^ (64 - g.bits) ≡ val (take g.bits (left c s)) = look.front g.bits l (omega (arith, h.order, h.inside)) ∙ ap val (sym (left_front s c h g.bits room)) in
      let whole : left c s ≡ image g.word ++ drop g.bits (left c s) =
      front_is g.bits (left c s) (omega (arith, length_left s c h)) ∙ ap (λ (x : List Bool). x ++ drop g.bits (left c s)) (sym (i ∙ ap (in_bits g.bits) first)) in
      settled
      (record {
        takes = record { valid = v; front = whole ∙ ap (λ (x : List Bool). image g.word ++ x) (sym (left_onward s c h g.bits)) };
        within = onward_within s c h g.bits room;
        stop = refl;
      })

  pub glimpsed_taken : (at : ℕ) → at ≡ c.at.0 → GlimpsedAt image s at (Some g) → Settled image s c (Some g)
  glimpsed_taken at e t = seen_taken t.n (subst (λ (x : ℕ). Looked s x t.n) e t.look) t.told

pub settled_taken : {image : ℕ → List Bool} {s : List ℕ} {c : Cursor} {g : Glimpse} → Settled image s c (Some g) → Taken (word Word image) s c g.word (onward c g.bits)
settled_taken (settled t) = t
