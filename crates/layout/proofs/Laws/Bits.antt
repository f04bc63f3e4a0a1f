-- Laws of a number in bits and of the bits of bytes.
use Rattle.std.specs.Prelude.{◌≡◌, refl, Bool, true, false, List, [], ◌∷◌, ◌++◌, ℕ, zero, suc, ◌+◌, ◌*◌, ◌/◌, ◌%◌, ◌^◌, ◌≤◌, ◌<◌, eqb, length, take, drop}
use Rattle.std.proofs.Common.{sym, ap, ap₂, ◌∙◌, append_assoc, mod-lt, mod-eq_of_lt, zero-lt-suc, zero-add, suc-add, add_comm, add_assoc, add-mul, mul_comm, mul_assoc, mul-suc, zero-mul, pow-suc, arith, pow_pos, pow-add, shr-shr, length-append, length-drop, take-append-drop, take_at, drop_at, length-take-le}
use Rattle.std.proofs.Math.Nat.{mod-one, zero-div, add-mul-div_right, mul-add-mod_self_right}
use Rattle.std.proofs.Math.Pow.{high, split}
use Rattle.std.proofs.lemmas.Nat.{mod-pow-add}
use Rattle.layout.specs.Bits.{odd, in_bits, Bytes, bits_of, zeros}
use Rattle.layout.specs.Laws.Bits.{num, val}
use Rattle.layout.proofs.Laws.Beginnings.{Splits}

-- ---- the number that bits stand for

num_go : (m : ℕ) → m < 2 → num (eqb m 1) ≡ m
unfolding num
num_go zero h = refl
num_go (suc zero) h = refl
num_go (suc (suc m)) h = absurd (omega arith)

pub num_odd : (n : ℕ) → num (odd n) ≡ n % 2
unfolding odd
num_odd n = num_go (n % 2) (mod-lt n (zero-lt-suc 1))

pub odd_num : (b : Bool) → odd (num b) ≡ b
unfolding odd num
odd_num true = refl
odd_num false = refl

pub num_lt : (b : Bool) → num b < 2
unfolding num
num_lt true = omega arith
num_lt false = omega arith

-- a multiple of 2 above changes nothing
odd_add : (h n : ℕ) → odd (h * 2 + n) ≡ odd n
unfolding odd
odd_add h n = ap (λ (m : ℕ). eqb m 1) (mul-add-mod_self_right h 2 n)

pub length_in_bits : (w n : ℕ) → length (in_bits w n) ≡ w
unfolding in_bits
length_in_bits zero n = refl
length_in_bits (suc w) n = ap suc (length_in_bits w n)

-- the k bits above the lowest j, and those
pub in_bits_split : (k j n : ℕ) → in_bits (k + j) n ≡ in_bits k (n / 2 ^ j) ++ in_bits j n
unfolding in_bits
in_bits_split zero j n = ap (λ (m : ℕ). in_bits m n) (zero-add j)
in_bits_split (suc k) j n =
    ap (λ (m : ℕ). in_bits m n) (suc-add k j)
    ∙ ap₂ (λ (b : Bool) (r : List Bool). b ∷ r) (ap (λ (m : ℕ). odd (n / 2 ^ m)) (add_comm k j) ∙ ap odd (sym (shr-shr n j k))) (in_bits_split k j n)

pub in_bits_zero : (w : ℕ) → in_bits w 0 ≡ zeros w
unfolding in_bits odd
in_bits_zero zero = refl
in_bits_zero (suc w) = ap₂ ◌∷◌ (ap (λ (n : ℕ). eqb (n % 2) 1) (zero-div (2 ^ w))) (in_bits_zero w)

-- what stands above the lowest j bits does not matter to them
pub in_bits_low : (j h n : ℕ) → in_bits j (h * 2 ^ j + n) ≡ in_bits j n
unfolding in_bits
in_bits_low zero h n = refl
in_bits_low (suc j) h n =
    let e : h * 2 ^ suc j ≡ h * 2 * 2 ^ j = ap (λ (m : ℕ). h * m) (pow-suc 2 j ∙ mul_comm (2 ^ j) 2) ∙ sym (mul_assoc h 2 (2 ^ j)) in
    ap₂ (λ (b : Bool) (r : List Bool). b ∷ r)
    (ap (λ (m : ℕ). odd ((m + n) / 2 ^ j)) e
    ∙ ap (λ (m : ℕ). odd (m / 2 ^ j)) (add_comm (h * 2 * 2 ^ j) n)
    ∙ ap odd (add-mul-div_right n (h * 2) (pow_pos j) ∙ add_comm (n / 2 ^ j) (h * 2))
    ∙ odd_add h (n / 2 ^ j))
    (ap (λ (m : ℕ). in_bits j (m + n)) e ∙ in_bits_low j (h * 2) n)

-- two numbers put together
pub in_bits_cat : (k j h : ℕ) {n : ℕ} → n < 2 ^ j → in_bits (k + j) (h * 2 ^ j + n) ≡ in_bits k h ++ in_bits j n
in_bits_cat k j h {n} l =
    in_bits_split k j (h * 2 ^ j + n) ∙ ap₂ (λ (a b : List Bool). a ++ b) (ap (in_bits k) (high h j l)) (in_bits_low j h n)

pub in_bits_mod : (w n : ℕ) → in_bits w (n % 2 ^ w) ≡ in_bits w n
in_bits_mod w n = sym (in_bits_low w (n / 2 ^ w) (n % 2 ^ w)) ∙ ap (in_bits w) (split n w)

pub val_append : (a b : List Bool) → val (a ++ b) ≡ val a * 2 ^ length b + val b
unfolding val
val_append [] b = sym (ap (λ (m : ℕ). m + val b) (zero-mul (2 ^ length b)) ∙ zero-add (val b))
val_append (x ∷ a) b =
    ap₂ (λ (m n : ℕ). num x * m + n) (ap (λ (m : ℕ). 2 ^ m) (length-append a b) ∙ pow-add 2 (length a) (length b)) (val_append a b)
    ∙ ap (λ (m : ℕ). m + (val a * 2 ^ length b + val b)) (sym (mul_assoc (num x) (2 ^ length a) (2 ^ length b)))
    ∙ sym (add_assoc (num x * 2 ^ length a * 2 ^ length b) (val a * 2 ^ length b) (val b))
    ∙ ap (λ (m : ℕ). m + val b) (sym (add-mul (num x * 2 ^ length a) (val a) (2 ^ length b)))

pub val_in_bits : (w n : ℕ) → val (in_bits w n) ≡ n % 2 ^ w
unfolding val in_bits
val_in_bits zero n = sym (mod-one n)
val_in_bits (suc w) n =
    ap₂ (λ (a b : ℕ). a + b) (ap₂ (λ (a b : ℕ). a * 2 ^ b) (num_odd (n / 2 ^ w)) (length_in_bits w n)) (val_in_bits w n)
    ∙ sym (mod-pow-add n 1 w)
    ∙ ap (λ (m : ℕ). n % 2 ^ m) (suc-add zero w ∙ ap suc (zero-add w))

pub val_lt : (bs : List Bool) → val bs < 2 ^ length bs
unfolding val
val_lt [] = omega arith
val_lt (b ∷ bs) = rw pow-suc (digit (num b) (num_lt b) (val_lt bs))
  where
    digit : (x : ℕ) {p r : ℕ} → x < 2 → r < p → x * p + r < p * 2
    digit zero {p} {r} h l = rw zero-mul (omega arith)
    digit (suc zero) {p} {r} h l = omega arith
    digit (suc (suc x)) {p} {r} h l = absurd (omega arith)

-- bits are the number that they stand for
pub in_bits_val : (bs : List Bool) → in_bits (length bs) (val bs) ≡ bs
unfolding val in_bits
in_bits_val [] = refl
in_bits_val (b ∷ bs) =
    ap₂ (λ (x : Bool) (r : List Bool). x ∷ r) (ap odd (high (num b) (length bs) (val_lt bs)) ∙ odd_num b)
    (in_bits_low (length bs) (num b) (val bs) ∙ in_bits_val bs)

-- the first w of more bits, as a number
module _ (w : ℕ) (l : List Bool) (h : w ≤ length l) where
  pub front_lt : val (take w l) < 2 ^ w
  front_lt = rw (length-take-le w l h) at (val_lt (take w l))

  pub front_is : l ≡ in_bits w (val (take w l)) ++ drop w l
  front_is = sym (take-append-drop w l) ∙ ap (λ (x : List Bool). x ++ drop w l) (sym (rw (length-take-le w l h) at (in_bits_val (take w l))))

-- two numbers in as many bits
pub in_bits_splits : (w a b : ℕ) → Splits (in_bits w a) (in_bits w b) (a % 2 ^ w ≡ b % 2 ^ w)
in_bits_splits w a b = record {
  split = λ x y e.
      let h : in_bits w a ≡ in_bits w b = sym (take_at (in_bits w a) x w (length_in_bits w a)) ∙ ap (take w) e ∙ take_at (in_bits w b) y w (length_in_bits w b) in
      let k : x ≡ y = sym (drop_at (in_bits w a) x w (length_in_bits w a)) ∙ ap (drop w) e ∙ drop_at (in_bits w b) y w (length_in_bits w b) in
      (sym (val_in_bits w a) ∙ ap val h ∙ val_in_bits w b, k);
}

pub in_bits_one : (w a b : ℕ) → a < 2 ^ w → b < 2 ^ w → Splits (in_bits w a) (in_bits w b) (a ≡ b)
in_bits_one w a b h l = record { split = λ x y e. let (p, q) = (in_bits_splits w a b).split x y e in (sym (mod-eq_of_lt h) ∙ p ∙ mod-eq_of_lt l, q) }

-- ---- the bits of a buffer

pub length_bits_of : (s : List ℕ) → length (bits_of s) ≡ 8 * length s
unfolding bits_of
length_bits_of [] = refl
length_bits_of (b ∷ s) = simp (length-append, length_in_bits, length_bits_of s, mul-suc) (add_comm 8 (8 * length s))

pub bits_of_append : (a b : List ℕ) → bits_of (a ++ b) ≡ bits_of a ++ bits_of b
unfolding bits_of
bits_of_append [] b = refl
bits_of_append (x ∷ a) b = ap (λ (r : List Bool). in_bits 8 x ++ r) (bits_of_append a b) ∙ sym (append_assoc (in_bits 8 x) (bits_of a) (bits_of b))

-- buffers of bytes with the same bits are the same
pub bytes_one : (s t : List ℕ) → Bytes s → Bytes t → bits_of s ≡ bits_of t → s ≡ t
bytes_one [] [] h l e = refl
bytes_one [] (b ∷ t) h l e = let k = sym (length_bits_of []) ∙ ap length e ∙ length_bits_of (b ∷ t) in absurd (omega arith)
bytes_one (a ∷ s) [] h l e = let k = sym (length_bits_of (a ∷ s)) ∙ ap length e ∙ length_bits_of [] in absurd (omega arith)
bytes_one (a ∷ s) (b ∷ t) h l e = let (p, q) = step e in ap₂ ◌∷◌ p (bytes_one s t h.1 l.1 q)
  where
    step : bits_of (a ∷ s) ≡ bits_of (b ∷ t) → (a ≡ b) × (bits_of s ≡ bits_of t)
    step f = (in_bits_one 8 a b h.0 l.0).split (bits_of s) (bits_of t) (unfold bits_of in f)

-- bits that fill whole bytes are some bytes' bits
pub bytes_some : (n : ℕ) (l : List Bool) → length l ≡ 8 * n → (s : List ℕ) × Bytes s × (bits_of s ≡ l)
unfolding bits_of
bytes_some zero [] e = ([], tt, refl)
bytes_some zero (b ∷ l) e = absurd (omega arith)
bytes_some (suc n) l e =
    let h : 8 ≤ length l = omega arith in
    let (s, k, f) = bytes_some n (drop 8 l) (length-drop 8 l ∙ omega arith) in
    (val (take 8 l) ∷ s, (front_lt 8 l h, k), ap (λ (x : List Bool). in_bits 8 (val (take 8 l)) ++ x) f ∙ sym (front_is 8 l h))
