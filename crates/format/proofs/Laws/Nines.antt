-- Bad words: the numbers of document 01 about 9, and the slip that it names.
use Rattle.std.specs.Prelude.{◌≡◌, refl, Bool, true, false, List, [], ◌∷◌, ◌++◌, ℕ, zero, suc, ◌-◌, ◌*◌, ◌/◌, ◌^◌, ◌≤◌, ◌<◌}
use Rattle.std.proofs.Common.{sym, ap, ap₂, ◌∙◌, subst, append_assoc, le-div_iff_mul-le, div-lt_iff_lt-mul, arith}
use Rattle.std.proofs.Math.Nat.{one-le-pow, pow-succ'}
use Rattle.layout.specs.Bits.{odd, in_bits, zeros}
use Rattle.layout.specs.Layout.{WordNo}
use Rattle.layout.proofs.Laws.Bits.{in_bits_zero, in_bits_one}
use Rattle.layout.proofs.Laws.Words.{dies_bad}
use Rattle.format.specs.Codes.{Word, digits, size, binary, gamma, delta, rice, groups, variable_byte}
use Rattle.format.specs.Restated.{Held}
use Rattle.format.proofs.Laws.Digits.{digits_le}
use Rattle.format.proofs.Laws.Codes.{sized, binary_is, gamma_is, size_word, grouped_word, gamma_free, delta_free, rice_free, variable_byte_free}

-- a one comes too early
early : (m n : ℕ) (y x : List Bool) → m < n → zeros m ++ true ∷ y ≡ zeros n ++ x → ⊥
early m zero y x h e = omega arith
early zero (suc n) y x h e = let z : ◌≡◌ {A = ℕ} 0 1 = cc in omega arith
early (suc m) (suc n) y x h e = early m n y x (omega arith) (cc)

-- "32 zeros are 9"
gamma_dead : (a : ℕ) (x : List Bool) → Word a → gamma a ≡ zeros 32 ++ x → ⊥
unfolding size
gamma_dead a x h e =
    let (m, s, k) = sized h in
    let l = digits_le 2 32 a in
    early m 32 (in_bits m a) x (omega arith) (sym (append_assoc (zeros m) (true ∷ []) (in_bits m a)) ∙ sym (gamma_is s k) ∙ e)

pub zeros_bad : WordNo Word gamma (zeros 32) 9 (zeros 32)
unfolding gamma size binary digits in_bits odd
zeros_bad =
    dies_bad gamma_free
    (record { upto = zeros 31; at = false; rest = []; here = refl; whole = refl; live = record { of = 2147483648; valid = omega arith; next = true; more = zeros 31; whole = refl }; dead = gamma_dead })

-- "10 as a delta word is 9": B(w) begins with its one
one_after : (j n : ℕ) (y x : List Bool) → ((zeros j ++ true ∷ []) ++ in_bits j n) ++ true ∷ y ≡ true ∷ false ∷ x → ⊥
unfolding in_bits
one_after zero n y x e = let z : ◌≡◌ {A = ℕ} 0 1 = cc in omega arith
one_after (suc j) n y x e = let z : ◌≡◌ {A = ℕ} 0 1 = cc in omega arith

delta_dead : (a : ℕ) (x : List Bool) → Word a → delta a ≡ true ∷ false ∷ x → ⊥
unfolding delta
delta_dead a x h e =
    let (m, s, k) = sized h in
    let (j, t, l) = sized (size_word h) in
    one_after j (size a) (in_bits m a) x (ap₂ (λ (u v : List Bool). u ++ v) (sym (gamma_is t l)) (sym (binary_is s k)) ∙ e)

pub delta_bad : WordNo Word delta (true ∷ false ∷ []) 9 (true ∷ false ∷ [])
unfolding delta gamma size binary digits in_bits odd
delta_bad =
    dies_bad delta_free
    (record { upto = true ∷ []; at = false; rest = []; here = refl; whole = refl; live = record { of = 1; valid = omega arith; next = true; more = []; whole = refl }; dead = delta_dead })

-- "k = 31: .. 00 is 9"
pub rice_bad : WordNo Word (rice 31) (zeros 2) 9 (zeros 2)
unfolding rice in_bits odd
rice_bad =
    dies_bad (rice_free 31)
    (record {
      upto = zeros 1;
      at = false;
      rest = [];
      here = refl;
      whole = refl;
      live = record { of = 2147483649; valid = omega arith; next = true; more = zeros 31; whole = refl };
      dead = λ a x h e. early ((a - 1) / 2 ^ 31) 2 (in_bits 31 (a - 1 - (a - 1) / 2 ^ 31 * 2 ^ 31)) x (let l = h.1 in omega arith) e;
    })

-- "Accepting a variable-byte word that begins 1 0000000": it is 9, whatever follows
group_dead : (a m : ℕ) (x : List Bool) → Held 128 a m → groups (suc m) a ≡ true ∷ (zeros 7 ++ x) → ⊥
unfolding groups
group_dead a zero x k f = let z : ◌≡◌ {A = ℕ} 0 1 = cc in omega arith
group_dead a (suc m) x k f =
    let p : 0 < 128 ^ suc m = one-le-pow (suc m) 128 (omega arith) in
    let q : ℕ = a / 128 ^ suc m in
    let t : in_bits 7 q ++ groups (suc m) a ≡ zeros 7 ++ x = cc in
    let low : 1 ≤ q = (le-div_iff_mul-le p).1 (omega (arith, k.low)) in
    let high : q < 128 = (div-lt_iff_lt-mul p).1 (subst (λ (b : ℕ). a < b) (pow-succ' 128 (suc m)) k.high) in
    let (z, _) = (in_bits_one 7 q 0 high (omega arith)).split (groups (suc m) a) x (t ∙ ap (λ (l : List Bool). l ++ x) (sym (in_bits_zero 7))) in
    omega arith

variable_byte_dead : (a : ℕ) (x : List Bool) → Word a → variable_byte a ≡ true ∷ (zeros 7 ++ x) → ⊥
unfolding variable_byte
variable_byte_dead a x h e = let (m, s, k) = grouped_word h in group_dead a m x k (ap (λ (g : ℕ). groups g a) (sym s) ∙ e)

pub variable_byte_bad : (x : List Bool) → WordNo Word variable_byte (true ∷ (zeros 7 ++ x)) 9 (true ∷ (zeros 7 ++ x))
unfolding variable_byte groups digits in_bits odd
variable_byte_bad x =
    dies_bad variable_byte_free
    (record { upto = true ∷ zeros 6; at = false; rest = x; here = refl; whole = refl; live = record { of = 128; valid = omega arith; next = true; more = zeros 8; whole = refl }; dead = variable_byte_dead })
