-- Bits written within a byte, and whole bytes.
use Rattle.std.specs.Prelude.{◌≡◌, Bool, ℕ, suc, ◌+◌, ◌-◌, ◌*◌, ◌/◌, ◌%◌, ◌^◌, ◌≤◌, ◌<◌, length, take, drop, set}
use Rattle.std.proofs.Math.Path.{sym, ap}
use Rattle.std.proofs.Common.{ap₂, ◌∙◌, subst, mod-lt, add_assoc, arith, pow_pos, pow-add, shr_lt, length-append, length-drop, take-append-drop, take_at, drop_at, length-take-le, Fits}
use mathlib.Core.List.{List, [], ◌∷◌, ◌++◌, append_assoc, append-nil}
use Rattle.std.proofs.Math.Arith.{digits_lt}
use Rattle.std.proofs.Math.Pow.{split}
use Rattle.std.proofs.Math.ListN.{get_or}
use Rattle.std.proofs.Math.Seq.{split_at}
use Rattle.std.proofs.lemmas.List.{set_split}
use Rattle.std.specs.Int.{w8, w32, to_be_bytes}
use Rattle.layout.specs.Bits.{Bytes, in_bits, bits_of, put}
use Rattle.layout.proofs.Laws.Bits.{length_in_bits, in_bits_low, in_bits_cat, in_bits_mod, in_bits_split, length_bits_of, bits_of_append}
use Rattle.bits.specs.Laws.Bytes.{before, length_before, at_byte, chunk}

-- b, with the w bits above the lowest k replaced by those of v
unfoldable pub patched : ℕ → ℕ → ℕ → ℕ → ℕ
patched b w k v = b / 2 ^ (w + k) * 2 ^ (w + k) + v * 2 ^ k + b % 2 ^ k

-- ---- a part of one byte, written

-- the patched byte, as the part above and the two below put together
patched_eq : (b w k v : ℕ) → patched b w k v ≡ b / 2 ^ (w + k) * 2 ^ (w + k) + (v * 2 ^ k + b % 2 ^ k)
unfolding patched
patched_eq b w k v = add_assoc (b / 2 ^ (w + k) * 2 ^ (w + k)) (v * 2 ^ k) (b % 2 ^ k)

below_lt : (b w k v : ℕ) → v < 2 ^ w → v * 2 ^ k + b % 2 ^ k < 2 ^ (w + k)
below_lt b w k v h = rw (pow-add 2 w k) (digits_lt h (mod-lt b (pow_pos k)))

pub patched_lt : (r b w k v : ℕ) → b < 2 ^ (r + (w + k)) → v < 2 ^ w → patched b w k v < 2 ^ (r + (w + k))
patched_lt r b w k v hb hv =
    rw (patched_eq b w k v, pow-add 2 r (w + k)) (digits_lt (shr_lt r (w + k) hb) (below_lt b w k v hv))

patched_bits : (r b w k v : ℕ) → v < 2 ^ w
    → in_bits (r + (w + k)) (patched b w k v) ≡ in_bits r (b / 2 ^ (w + k)) ++ (in_bits w v ++ in_bits k b)
patched_bits r b w k v hv =
    ap (in_bits (r + (w + k))) (patched_eq b w k v)
    ∙ in_bits_cat r (w + k) (b / 2 ^ (w + k)) (below_lt b w k v hv)
    ∙ ap (λ (l : List Bool). in_bits r (b / 2 ^ (w + k)) ++ l)
    (in_bits_cat w k v (mod-lt b (pow_pos k))
    ∙ ap (λ (l : List Bool). in_bits w v ++ l) (sym (in_bits_low k (b / 2 ^ k) (b % 2 ^ k)) ∙ ap (in_bits k) (split b k)))

-- what is written over a middle part
put_middle : (a m z n : List Bool) (at : ℕ) → length a ≡ at → length m ≡ length n → put (a ++ (m ++ z)) at n ≡ a ++ (n ++ z)
unfolding put
put_middle a m z n at e f =
    ap₂ (λ (x y : List Bool). x ++ (n ++ y)) (take_at a (m ++ z) at e)
    (ap (λ (l : List Bool). drop (at + length n) l) (sym (append_assoc a m z))
    ∙ drop_at (a ++ m) z (at + length n) (length-append a m ∙ ap₂ (λ (x y : ℕ). x + y) e f))

module _ (s : List ℕ) (q r w k v : ℕ) (inside : q < length s) (e : r + (w + k) ≡ 8) (hv : v < 2 ^ w) where
  pub chunk_write : bits_of (set s q (patched (get_or s q 0) w k v)) ≡ put (bits_of s) (8 * q + r) (in_bits w v)
  unfolding before
  chunk_write =
      let b = get_or s q 0 in
      let rest = in_bits k b ++ bits_of (drop (suc q) s) in
      let h = b / 2 ^ (w + k) in
      ap bits_of (set_split s q (patched b w k v) inside)
      ∙ at_byte s q (patched b w k v)
      ∙ ap (λ (l : List Bool). bits_of (take q s) ++ (l ++ bits_of (drop (suc q) s)))
      (ap (λ (m : ℕ). in_bits m (patched b w k v)) (sym e) ∙ patched_bits r b w k v hv)
      ∙ regroup (bits_of (take q s)) (in_bits r h) (in_bits w v) (in_bits k b) (bits_of (drop (suc q) s))
      ∙ sym (put_middle (before s q r h) (in_bits w (b / 2 ^ k)) rest (in_bits w v) (8 * q + r) (length_before s q r h (omega arith)) (length_in_bits w (b / 2 ^ k) ∙ sym (length_in_bits w v)))
      ∙ ap (λ (l : List Bool). put l (8 * q + r) (in_bits w v)) (sym (chunk s q r w k b e))
      ∙ ap (λ (l : List ℕ). put (bits_of l) (8 * q + r) (in_bits w v)) (sym (split_at s q 0 inside))
    where
      regroup : (a b c d f : List Bool) → a ++ ((b ++ (c ++ d)) ++ f) ≡ (a ++ b) ++ (c ++ (d ++ f))
      regroup a b c d f = simp append_assoc

-- whole bytes, written over as many
pub bytes_write : (s new : List ℕ) (q k : ℕ) → length new ≡ k → q + k ≤ length s
    → bits_of (take q s ++ (new ++ drop k (drop q s))) ≡ put (bits_of s) (8 * q) (bits_of new)
bytes_write s new q k e h =
    let rest = drop q s in
    let a = bits_of (take q s) in
    let old = take k rest in
    let parts : (x : List ℕ) → bits_of (take q s ++ (x ++ drop k rest)) ≡ a ++ (bits_of x ++ bits_of (drop k rest)) =
    λ x. bits_of_append (take q s) (x ++ drop k rest) ∙ ap (λ (l : List Bool). a ++ l) (bits_of_append x (drop k rest)) in
    let l : length a ≡ 8 * q = length_bits_of (take q s) ∙ ap (λ (m : ℕ). 8 * m) (length-take-le q s (omega arith)) in
    let m : length old ≡ length new = length-take-le k rest (rw length-drop (omega arith)) ∙ sym e in
    let same : length (bits_of old) ≡ length (bits_of new) = length_bits_of old ∙ ap (λ (n : ℕ). 8 * n) m ∙ sym (length_bits_of new) in
    let whole : take q s ++ (old ++ drop k rest) ≡ s = ap (λ (x : List ℕ). take q s ++ x) (take-append-drop k rest) ∙ take-append-drop q s in
    parts new
    ∙ sym (put_middle a (bits_of old) (bits_of (drop k rest)) (bits_of new) (8 * q) l same)
    ∙ ap (λ (x : List Bool). put x (8 * q) (bits_of new)) (sym (parts old) ∙ ap bits_of whole)

-- a byte of x, with the bits below it
byte_first : (j x : ℕ) → in_bits 8 (x / 2 ^ j % 256) ++ in_bits j x ≡ in_bits (8 + j) x
byte_first j x = ap (λ (l : List Bool). l ++ in_bits j x) (in_bits_mod 8 (x / 2 ^ j)) ∙ sym (in_bits_split 8 j x)

-- the bits of four bytes of x, the highest first
pub four_bytes : (x : ℕ) → bits_of (to_be_bytes w32 x) ≡ in_bits 32 x
unfolding bits_of
four_bytes x =
    ap (λ (l : List Bool). in_bits 8 (x / 16777216 % 256) ++ l)
    (ap (λ (l : List Bool). in_bits 8 (x / 65536 % 256) ++ l)
    (ap (λ (l : List Bool). in_bits 8 (x / 256 % 256) ++ l) (append-nil (in_bits 8 (x % 256)) ∙ in_bits_mod 8 x)
    ∙ byte_first 8 x) ∙ byte_first 16 x) ∙ byte_first 24 x

pub patched_byte : (b w k v : ℕ) → w + k ≤ 8 → b < 256 → v < 2 ^ w → patched b w k v < 256
patched_byte b w k v h hb hv =
    let e : 8 - (w + k) + (w + k) ≡ 8 = omega arith in
    subst (λ (m : ℕ). patched b w k v < 2 ^ m) e (patched_lt (8 - (w + k)) b w k v (subst (λ (m : ℕ). b < 2 ^ m) (sym e) hb) hv)

-- the list of a lent `&mut [u8]`, of which each element fits, is one of bytes
pub all_bytes : (s : List ℕ) → ((i : ℕ) → Fits w8 (get_or s i 0)) → Bytes s
all_bytes [] h = tt
all_bytes (b ∷ s) h = ((h 0).fits, all_bytes s (λ i. h (suc i)))
