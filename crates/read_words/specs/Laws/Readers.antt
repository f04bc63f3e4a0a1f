-- The two parts of a gamma, a delta and a Rice word.
use Rattle.std.specs.Prelude.{◌≡◌, refl, Bool, List, ◌++◌}
use Rattle.std.proofs.Common.{sym, ap₂, ◌∙◌, subst, le-div_iff_mul-le}
use Rattle.std.proofs.Math.Path.{ap}
use Prim.Native.Nat.{ℕ, zero, suc, ◌+◌, ◌-◌, ◌*◌, ◌/◌, ◌%◌, ◌^◌, ◌≤◌, ◌<◌, min}
use Rattle.std.proofs.Math.Nat.{mod-lt, one-mul, mod-eq-sub-div-mul}
use Rattle.std.proofs.Math.Decide.{dec_le}
use native.Mathlib.Omega.{arith}
use Rattle.std.proofs.Math.Pow as Pow
use Rattle.std.proofs.Math.Pow.{pow_pos, pow_mono, split, shr_mono}
use Rattle.layout.specs.Bits.{in_bits}
use Rattle.layout.proofs.Laws.Beginnings.{splits_free}
use Rattle.layout.proofs.Laws.Bits.{in_bits_mod}
use Rattle.layout.proofs.Laws.Parts.{Parts}
use Rattle.format.specs.Limits.{largest_word}
use Rattle.format.specs.Codes.{Word, size, binary, gamma, delta, rice}
use Rattle.format.specs.Restated.{Held}
use Rattle.format.proofs.Laws.Digits.{held_one, digits_le}
use Rattle.format.proofs.Laws.Codes.{sized, lead, gamma_is, rice_is, gamma_free, run_splits, below_size}
use Rattle.read_words.specs.Told.{Upto, run, Among, Upward}

-- ---- gamma of the words from 1 to top

module _ (top t : ℕ) (small : top ≤ largest_word) (ht : Held 2 top t) where
  abbrev pub After : ℕ → ℕ → Type 0
  After m = Among m 0 (min (2 ^ m - 1) (top - 2 ^ m))

  halves : ℕ → ℕ × ℕ
  halves w = (size w - 1, w % 2 ^ (size w - 1))

  to : (w : ℕ) → Upward top w → (Upto t (halves w).0 × After (halves w).0 (halves w).1) × (gamma w ≡ run (halves w).0 ++ in_bits (halves w).0 (halves w).1)
  unfolding halves
  to w h = go (sized {w = w} (h.0, omega arith))
    where
      le : (m : ℕ) → Held 2 w m → Dec (m ≤ t) → m ≤ t
      le m k (yes p) = p
      le m k (no p) = let q : suc t ≤ m = omega arith in let s = pow_mono q in let a = ht.high in let b = k.low in absurd (omega arith)

      go : ((m : ℕ) × (size w ≡ suc m) × Held 2 w m) → (Upto t (halves w).0 × After (halves w).0 (halves w).1) × (gamma w ≡ run (halves w).0 ++ in_bits (halves w).0 (halves w).1)
      go (m, e, k) =
          let q : m ≡ size w - 1 = omega arith in
          let l = mod-lt w (pow_pos m) in
          let d : 2 ^ m + w % 2 ^ m ≡ w = (rw one-mul at (rw (lead k) at (split w m))) in
          subst (λ (n : ℕ). (Upto t n × After n (w % 2 ^ n)) × (gamma w ≡ run n ++ in_bits n (w % 2 ^ n))) q
          ((le m k (dec_le m t), (omega arith, omega arith, l)), gamma_is e k ∙ ap (λ (x : List Bool). run m ++ x) (sym (in_bits_mod m w)))

  gamma_joined : (m r : ℕ) → Upto t m → After m r → Upward top (2 ^ m + r) × (halves (2 ^ m + r) ≡ (m, r))
  unfolding halves
  gamma_joined m r i h =
      let l : r < 2 ^ m = h.2 in
      let g : r ≤ min (2 ^ m - 1) (top - 2 ^ m) = h.1 in
      let s = pow_mono i in
      let a = ht.low in
      let z = pow_pos m in
      let v : Upward top (2 ^ m + r) = (omega arith, omega arith) in
      let (n, e, k) = sized {w = 2 ^ m + r} (v.0, omega arith) in
      let j : Held 2 (2 ^ m + r) m = record { low = omega arith; high = omega arith } in
      let q : size (2 ^ m + r) - 1 ≡ m = let y = held_one {m = n} (omega arith) k j in omega arith in
      (v, rw q (ap (λ (x : ℕ). (m, x)) (rw one-mul at (Pow.low 1 m l))))

  pub gamma_parts : Parts (Upto t) run After (λ m. in_bits m) (Upward top) gamma
  gamma_parts = record {
    parts = halves;
    free = splits_free (λ a b h l. run_splits a b);
    some = λ m h. (0, (omega arith, omega arith, pow_pos m));
    to = to;
    from = λ m r h l. let (v, e) = gamma_joined m r h l in (2 ^ m + r, v, e);
  }

  -- the word that the parts m and r make
  pub gamma_made : (m r : ℕ) → Upto t m → After m r → Upward top (2 ^ m + r) × (gamma_parts.parts (2 ^ m + r) ≡ (m, r))
  unfolding gamma_parts
  gamma_made = gamma_joined

-- ---- delta

abbrev pub Long : ℕ → ℕ → Type 0
Long d = Among d (2 ^ (d - 1)) (2 ^ d - 1)

pub long_some : (d : ℕ) → 1 ≤ d → (2 ^ (d - 1) ≤ 2 ^ d - 1) × (2 ^ d - 1 < 2 ^ d)
long_some zero h = absurd (omega arith)
long_some (suc m) h = let e : suc m - 1 ≡ m = omega arith in rw e (omega (arith, pow_pos m), omega (arith, pow_pos m))

pub double : (d : ℕ) → 1 ≤ d → 2 * 2 ^ (d - 1) ≡ 2 ^ d
double zero h = absurd (omega arith)
double (suc m) h = let e : suc m - 1 ≡ m = omega arith in rw e (omega arith)

held_long : (d w : ℕ) → 1 ≤ d → Long d w → (m : ℕ) × (d ≡ suc m) × Held 2 w m
held_long zero w h l = absurd (omega arith)
held_long (suc m) w h l = let e : suc m - 1 ≡ m = omega arith in (m, refl, record { low = rw e at l.0; high = l.2 })

delta_to : (w : ℕ) → Word w → (Upward 32 (size w) × Long (size w) w) × (delta w ≡ gamma (size w) ++ in_bits (size w) w)
unfolding delta binary size
delta_to w h = go (sized h)
  where
    go : ((m : ℕ) × (size w ≡ suc m) × Held 2 w m) → (Upward 32 (size w) × Long (size w) w) × (delta w ≡ gamma (size w) ++ in_bits (size w) w)
    go (m, e, k) =
        let b = digits_le 2 32 w in
        let q : size w - 1 ≡ m = omega arith in
        let g : 2 ^ (size w - 1) ≤ w = rw q k.low in
        let f : w < 2 ^ size w = below_size h in
        (((omega arith, b), (g, omega arith, f)), refl)

delta_joined : (d w : ℕ) → Upward 32 d → Long d w → Word w × (size w ≡ d)
delta_joined d w h l = go (held_long d w h.0 l)
  where
    go : ((m : ℕ) × (d ≡ suc m) × Held 2 w m) → Word w × (size w ≡ d)
    go (m, e, k) =
        let i : suc m ≤ 32 = omega arith in
        let s : 2 ^ suc m ≤ 4294967296 = pow_mono i in
        let a = k.low in
        let b = k.high in
        let v : Word w = (omega (arith, pow_pos m), omega arith) in
        let (n, f, j) = sized v in
        (v, f ∙ ap suc (held_one (omega arith) j k) ∙ sym e)

pub delta_parts : Parts (Upward 32) gamma Long (λ d. in_bits d) Word delta
delta_parts = record {
  parts = λ w. (size w, w);
  free = λ a b x h l e. gamma_free a b x (h.0, omega arith) (l.0, omega arith) e;
  some = λ d h. let (p, q) = long_some d h.0 in (2 ^ d - 1, (p, omega arith, q));
  to = delta_to;
  from = λ d w h l. let (v, e) = delta_joined d w h l in (w, v, ap (λ (n : ℕ). (n, w)) e);
}

pub delta_made : (d w : ℕ) → Upward 32 d → Long d w → Word w × (delta_parts.parts w ≡ (d, w))
unfolding delta_parts
delta_made d w h l = let (v, e) = delta_joined d w h l in (v, ap (λ (n : ℕ). (n, w)) e)

-- ---- Rice

module _ (k : ℕ) where
  abbrev pub most : ℕ
  most = (largest_word - 1) / 2 ^ k

  abbrev pub Left : ℕ → ℕ → Type 0
  Left q = Among k 0 (min (2 ^ k - 1) (largest_word - 1 - q * 2 ^ k))

  quot : ℕ → ℕ × ℕ
  quot w = ((w - 1) / 2 ^ k, (w - 1) % 2 ^ k)

  rice_to : (w : ℕ) → Word w → (Upto most (quot w).0 × Left (quot w).0 (quot w).1) × (rice k w ≡ run (quot w).0 ++ in_bits k (quot w).1)
  unfolding quot
  rice_to w h =
      let e = split (w - 1) k in
      let l = mod-lt (w - 1) (pow_pos k) in
      let s : (w - 1) / 2 ^ k ≤ (largest_word - 1) / 2 ^ k = shr_mono k (omega arith) in
      ((s, (omega arith, omega arith, l)), rice_is k w ∙ ap (λ (r : ℕ). run ((w - 1) / 2 ^ k) ++ in_bits k r) (sym (mod-eq-sub-div-mul (w - 1) (2 ^ k))))

  pub base_le : (q : ℕ) → q ≤ most → q * 2 ^ k ≤ largest_word - 1
  base_le q h = (le-div_iff_mul-le (pow_pos k)).0 h

  rice_joined : (q r : ℕ) → q ≤ most → Left q r → Word (q * 2 ^ k + 1 + r) × (quot (q * 2 ^ k + 1 + r) ≡ (q, r))
  unfolding quot
  rice_joined q r h g =
      let i = base_le q h in
      let l : r < 2 ^ k = g.2 in
      let m : r ≤ min (2 ^ k - 1) (largest_word - 1 - q * 2 ^ k) = g.1 in
      let e : q * 2 ^ k + 1 + r - 1 ≡ q * 2 ^ k + r = omega arith in
      ((omega arith, omega arith), rw e (ap₂ (λ (a b : ℕ). (a, b)) (Pow.high q k l) (Pow.low q k l)))

  pub rice_parts : Parts (Upto most) run Left (λ q. in_bits k) Word (rice k)
  rice_parts = record {
    parts = quot;
    free = splits_free (λ a b h l. run_splits a b);
    some = λ q h. (0, (omega arith, omega arith, pow_pos k));
    to = rice_to;
    from = λ q r h l. let (v, e) = rice_joined q r h l in (q * 2 ^ k + 1 + r, v, e);
  }

  pub rice_made : (q r : ℕ) → q ≤ most → Left q r → Word (q * 2 ^ k + 1 + r) × (rice_parts.parts (q * 2 ^ k + 1 + r) ≡ (q, r))
  unfolding rice_parts
  rice_made = rice_joined
