-- How long the words of each code are, and the parts of which they are written.
use Rattle.std.specs.Prelude.{◌≡◌, refl, Bool, true, false, List, ◌∷◌, ◌++◌, ℕ, zero, suc, ◌+◌, ◌-◌, ◌*◌, ◌/◌, ◌%◌, ◌^◌, ◌≤◌, ◌<◌, length}
use Rattle.std.proofs.Common.{sym, ap, ap₂, ◌∙◌, subst, lt_of_lt_of_le, zero-add, one-mul, mod-lt, arith, pow_pos, pow-add, pow_mono, length-append}
use Rattle.std.proofs.Math.Nat.{mod-eq-sub-div-mul}
use Rattle.std.proofs.lemmas.List.{length-replicate}
use Rattle.layout.specs.Bits.{odd, in_bits, zeros}
use Rattle.layout.proofs.Laws.Bits.{length_in_bits, in_bits_cat, in_bits_mod}
use Rattle.format.proofs.Laws.Digits.{digits_hold}
use Rattle.format.specs.Codes.{Word, digits, size, binary, gamma, delta, rice, another, groups, variable_byte}
use Rattle.layout.proofs.Laws.Windows.{zeros_lead}
use Rattle.bits.specs.Laws.Length.{size_le, size_pos, power_seven}

-- ---- gamma and delta

length_binary : (w : ℕ) → length (binary w) ≡ size w
unfolding binary
length_binary w = length_in_bits (size w) w

pub length_gamma : (w : ℕ) → length (gamma w) ≡ size w - 1 + size w
unfolding gamma
length_gamma w =
    length-append (zeros (size w - 1)) (binary w) ∙ ap₂ (λ (a b : ℕ). a + b) (length-replicate (size w - 1) false) (length_binary w)

pub length_delta : (w n : ℕ) → n ≡ size w → length (delta w) ≡ length (gamma n) + n
unfolding delta
length_delta w n e =
    length-append (gamma (size w)) (binary w) ∙ ap (λ (b : ℕ). length (gamma (size w)) + b) (length_binary w) ∙ ap (λ (k : ℕ). length (gamma k) + k) (sym e)

pub gamma_led : (n w : ℕ) → n ≡ size w → zeros (n - 1) ++ in_bits n w ≡ gamma w
unfolding gamma binary
gamma_led n w e = ap (λ (k : ℕ). zeros (k - 1) ++ in_bits k w) e

pub size_holds : (n w : ℕ) → n ≡ size w → Word w → w < 2 ^ n
unfolding size
size_holds n w e h = subst (λ (k : ℕ). w < 2 ^ k) (sym e) (digits_hold 2 32 w (omega (arith, h.1)))

-- a word of gamma as one field
pub gamma_field : (n w : ℕ) → n ≡ size w → Word w → in_bits (n - 1 + n) w ≡ gamma w
gamma_field n w e h = zeros_lead (n - 1) n (size_holds n w e h) ∙ gamma_led n w e

pub gamma_holds : (n w : ℕ) → n ≡ size w → Word w → w < 2 ^ (n - 1 + n)
gamma_holds n w e h = let l : n ≤ n - 1 + n = omega arith in lt_of_lt_of_le (size_holds n w e h) (pow_mono l)

-- how many digits a word has is a word
pub size_word : (n w : ℕ) → n ≡ size w → Word w → Word n
size_word n w e h = omega (arith, e, size_pos w h, size_le w)

pub delta_parts : (n w : ℕ) → n ≡ size w → gamma n ++ in_bits n w ≡ delta w
unfolding delta binary
delta_parts n w e = ap (λ (k : ℕ). gamma k ++ in_bits k w) e

-- ---- Rice

-- the one and what is left are one field
rice_field : (k w : ℕ) → rice k w ≡ zeros ((w - 1) / 2 ^ k) ++ in_bits (k + 1) (2 ^ k + (w - 1) % 2 ^ k)
unfolding rice in_bits odd
rice_field k w =
    let r = (w - 1) % 2 ^ k in
    let e : 1 + k ≡ k + 1 = omega arith in
    ap (λ (x : List Bool). zeros ((w - 1) / 2 ^ k) ++ x)
    (ap (λ (n : ℕ). true ∷ in_bits k n) (sym (mod-eq-sub-div-mul (w - 1) (2 ^ k)))
    ∙ sym (in_bits_cat 1 k 1 (mod-lt (w - 1) (pow_pos k)))
    ∙ ap₂ (λ (m n : ℕ). in_bits m (n + r)) e (one-mul (2 ^ k)))

pub length_rice : (k w : ℕ) → length (rice k w) ≡ (w - 1) / 2 ^ k + (k + 1)
length_rice k w =
    ap length (rice_field k w)
    ∙ length-append (zeros ((w - 1) / 2 ^ k)) (in_bits (k + 1) (2 ^ k + (w - 1) % 2 ^ k))
    ∙ ap₂ (λ (a b : ℕ). a + b) (length-replicate ((w - 1) / 2 ^ k) false) (length_in_bits (k + 1) (2 ^ k + (w - 1) % 2 ^ k))

pub rice_led : (k w one : ℕ) → one ≡ 2 ^ k → zeros ((w - 1) / 2 ^ k) ++ in_bits (k + 1) (one + (w - 1) % one) ≡ rice k w
rice_led k w one e = ap (λ (n : ℕ). zeros ((w - 1) / 2 ^ k) ++ in_bits (k + 1) (n + (w - 1) % n)) e ∙ sym (rice_field k w)

pub rice_holds : (k r one : ℕ) → one ≡ 2 ^ k → r < one → one + r < 2 ^ (k + 1)
rice_holds k r one e h = let p : 2 ^ (k + 1) ≡ 2 ^ k * 2 = pow-add 2 k 1 in omega (arith, p, e, h)

-- ---- variable-byte

pub length_groups : (g w : ℕ) → length (groups g w) ≡ 8 * g
unfolding groups
length_groups zero w = refl
length_groups (suc g) w =
    ap suc (length-append (in_bits 7 (w / 128 ^ g)) (groups g w) ∙ ap₂ (λ (a b : ℕ). a + b) (length_in_bits 7 (w / 128 ^ g)) (length_groups g w)) ∙ omega arith

pub length_variable_byte : (w : ℕ) → length (variable_byte w) ≡ 8 * digits 128 5 w
unfolding variable_byte
length_variable_byte w = length_groups (digits 128 5 w) w

-- a group of w after which g more come, behind its flag
group_low : (w g : ℕ) → in_bits 7 (w / 2 ^ (7 * g) % 128) ≡ in_bits 7 (w / 128 ^ g)
group_low w g = in_bits_mod 7 (w / 2 ^ (7 * g)) ∙ ap (λ (n : ℕ). in_bits 7 (w / n)) (sym (power_seven g))

pub last_unit : (w g : ℕ) → g ≡ 0 → in_bits 8 (w / 2 ^ (7 * g) % 128) ≡ another g ∷ in_bits 7 (w / 128 ^ g)
unfolding in_bits odd
last_unit w g e =
    let x = w / 2 ^ (7 * g) in
    ap (in_bits 8) (sym (zero-add (x % 128))) ∙ in_bits_cat 1 7 0 (mod-lt x (omega arith)) ∙ ap₂ ◌∷◌ (sym (ap another e)) (group_low w g)

pub earlier_unit : (w g : ℕ) → 0 < g → in_bits 8 (128 + w / 2 ^ (7 * g) % 128) ≡ another g ∷ in_bits 7 (w / 128 ^ g)
unfolding in_bits odd
earlier_unit w g h = in_bits_cat 1 7 1 (mod-lt (w / 2 ^ (7 * g)) (omega arith)) ∙ ap₂ ◌∷◌ (sym (follows g h)) (group_low w g)
  where
    follows : (g : ℕ) → 0 < g → another g ≡ true
    follows zero h = absurd (omega arith)
    follows (suc g) h = refl

-- a unit of 8 bits, and those after it
pub unit_first : (g w u : ℕ) → in_bits 8 u ≡ another g ∷ in_bits 7 (w / 128 ^ g) → groups (suc g) w ≡ in_bits 8 u ++ groups g w
unfolding groups
unit_first g w u e = ap (λ (x : List Bool). x ++ groups g w) (sym e)
