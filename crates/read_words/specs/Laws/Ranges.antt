-- A field of n bits that holds the numbers from lo to hi.
use Rattle.std.specs.Prelude.{◌≡◌, refl, ◌⊎◌, Ok, Err, Bool, false, List, [], ◌∷◌, ◌++◌, ℕ, suc, ◌+◌, ◌-◌, ◌*◌, ◌/◌, ◌^◌, ◌≤◌, ◌<◌, min, length, take, drop, get_or}
use Rattle.std.proofs.Common.{sym, ap, ap₂, ◌∙◌, subst, subst₂, inl, inr, append_assoc, mod-eq_of_lt, mul-div_cancel, le-div_iff_mul-le, le_antisymm, le_refl, lt_of_le_of_lt, div-one, arith, pow_pos, shr_lt, length-append, length-drop, take-append-drop, take_all, take_at, take-suc, take-add, drop-cons, length-take-le}
use Rattle.std.proofs.Math.Nat.{div-eq_of_lt, sub-zero}
use Rattle.std.proofs.Math.Decide.{dec_le, dec_lt}
use Rattle.std.proofs.Math.Pow.{shr_mono, high}
use Rattle.layout.specs.Bits.{odd, in_bits}
use Rattle.layout.specs.Layout.{Stops, fixed}
use Rattle.layout.specs.Dead.{Dies}
use Rattle.layout.specs.Laws.Bits.{val}
use Rattle.layout.proofs.Laws.Bits.{val_lt, val_append, val_in_bits, in_bits_val, in_bits_split, in_bits_one, length_in_bits}
use Rattle.bits.specs.Cursor.{Within, left, onward, Taken}
use Rattle.bits.specs.Laws.Cursor.{length_left, left_onward}
use Rattle.bits.specs.declared.BitPos.{BitPos}
use Rattle.bits.specs.declared.Cursor.{Cursor}
use Rattle.read_words.specs.Told.{ToldWord, took, cut, bad, Among, Live}
use Rattle.read_words.specs.declared.NoWord.TheVariants.{Cut, Bad}

-- the number that the first r of w bits stand for
pub val_front : (l : List Bool) (w r : ℕ) → w ≤ length l → r ≤ w → val (take r l) ≡ val (take w l) / 2 ^ (w - r)
val_front l w r h k =
    let e : r + (w - r) ≡ w = omega arith in
    let t : List Bool = take (w - r) (drop r l) in
    let n : length t ≡ w - r = length-take-le (w - r) (drop r l) (rw length-drop (omega arith)) in
    let f : val (take w l) ≡ val (take r l) * 2 ^ (w - r) + val t =
    ap (λ (i : ℕ). val (take i l)) (sym e) ∙ ap val (take-add r (w - r) l) ∙ val_append (take r l) t ∙ ap (λ (i : ℕ). val (take r l) * 2 ^ i + val t) n in
    sym (ap (λ (i : ℕ). i / 2 ^ (w - r)) f ∙ high (val (take r l)) (w - r) (subst (λ (i : ℕ). val t < 2 ^ i) n (val_lt t)))

top_bit : (m a : ℕ) → in_bits (suc m) a ≡ odd (a / 2 ^ m) ∷ in_bits m a
unfolding in_bits
top_bit m a = refl

module _ (n lo hi : ℕ) (o : lo ≤ hi) (b : hi < 2 ^ n) where
  -- the numbers of n bits that begin with t are those whose upper bits are t's number
  begun : (t : List Bool) (m a : ℕ) → length t + m ≡ n → a / 2 ^ m ≡ val t → in_bits n a ≡ t ++ in_bits m a
  begun t m a e f =
      ap (λ (i : ℕ). in_bits i a) (sym e) ∙ in_bits_split (length t) m a ∙ ap (λ (i : ℕ). in_bits (length t) i ++ in_bits m a) f ∙ ap (λ (x : List Bool). x ++ in_bits m a) (in_bits_val t)

  block : (t y : List Bool) (m a : ℕ) → length t + m ≡ n → a < 2 ^ n → in_bits n a ≡ t ++ y → a / 2 ^ m ≡ val t
  block t y m a e h f =
      let k : a / 2 ^ m < 2 ^ length t = shr_lt (length t) m (subst (λ (i : ℕ). a < 2 ^ i) (sym e) h) in
      let g : in_bits (length t) (a / 2 ^ m) ++ in_bits m a ≡ in_bits (length t) (val t) ++ y =
      sym (in_bits_split (length t) m a) ∙ ap (λ (i : ℕ). in_bits i a) e ∙ f ∙ ap (λ (x : List Bool). x ++ y) (sym (in_bits_val t)) in
      ((in_bits_one (length t) (a / 2 ^ m) (val t) k (val_lt t)).split (in_bits m a) y g).0

  -- fewer bits than n, with which a number from lo to hi begins
  pub range_stops : (t : List Bool) (m : ℕ) → length t + suc m ≡ n → lo / 2 ^ suc m ≤ val t → val t ≤ hi / 2 ^ suc m → Stops (Among n lo hi) (in_bits n) t
  range_stops t m e h l = go (dec_le lo (val t * 2 ^ suc m))
    where
      at : (a : ℕ) → Among n lo hi a → a / 2 ^ suc m ≡ val t → Stops (Among n lo hi) (in_bits n) t
      at a g f = record { of = a; valid = g; next = odd (a / 2 ^ m); more = in_bits m a; whole = begun t (suc m) a e f ∙ ap (λ (x : List Bool). t ++ x) first }
        where
          first : in_bits (suc m) a ≡ odd (a / 2 ^ m) ∷ in_bits m a
          first = top_bit m a

      top : val t * 2 ^ suc m ≤ hi
      top = (le-div_iff_mul-le (pow_pos (suc m))).0 l

      go : Dec (lo ≤ val t * 2 ^ suc m) → Stops (Among n lo hi) (in_bits n) t
      go (yes p) = at (val t * 2 ^ suc m) (p, top, lt_of_le_of_lt top b) (mul-div_cancel (val t) (pow_pos (suc m)))
      go (no p) = at lo (le_refl lo, o, lt_of_le_of_lt o b) (le_antisymm h ((le-div_iff_mul-le (pow_pos (suc m))).1 (omega arith)))

  -- one bit more, with which none begins
  pub range_dies : (t x : List Bool) (c : Bool) (m : ℕ) → length t + suc m ≡ n → lo / 2 ^ suc m ≤ val t → val t ≤ hi / 2 ^ suc m
      → (val (t ++ c ∷ []) < lo / 2 ^ m) ⊎ (hi / 2 ^ m < val (t ++ c ∷ [])) → Dies (Among n lo hi) (in_bits n) (t ++ c ∷ x) (c ∷ x)
  range_dies t x c m e h l d =
      record { upto = t; at = c; rest = x; here = refl; whole = refl; live = range_stops t m e h l; dead = λ a y g f. outside a g (block (t ++ c ∷ []) y m a (longer e) g.2 (f ∙ sym (append_assoc t (c ∷ []) y))) d }
    where
      longer : length t + suc m ≡ n → length (t ++ c ∷ []) + m ≡ n
      longer q = ap (λ (i : ℕ). i + m) (length-append t (c ∷ [])) ∙ omega arith

      outside : (a : ℕ) → Among n lo hi a → a / 2 ^ m ≡ val (t ++ c ∷ []) → (val (t ++ c ∷ []) < lo / 2 ^ m) ⊎ (hi / 2 ^ m < val (t ++ c ∷ [])) → ⊥
      outside a g f (inl p) = let q = shr_mono m g.0 in omega arith
      outside a g f (inr p) = let q = shr_mono m g.1 in omega arith

-- ---- how many bits live, bit by bit

-- the first r of w bits do
abbrev pub LiveTo : ℕ → ℕ → ℕ → ℕ → ℕ → ℕ → Type 0
LiveTo v w n lo hi r = (r ≤ w) × (lo / 2 ^ (n - r) ≤ v / 2 ^ (w - r)) × (v / 2 ^ (w - r) ≤ hi / 2 ^ (n - r))

pub live_none : (v w n lo hi : ℕ) → lo ≤ hi → hi < 2 ^ n → v < 2 ^ w → LiveTo v w n lo hi 0
live_none v w n lo hi o b h =
    let x : lo / 2 ^ (n - 0) ≡ 0 = ap (λ (i : ℕ). lo / 2 ^ i) (sub-zero n) ∙ div-eq_of_lt (lt_of_le_of_lt o b) in
    let y : v / 2 ^ (w - 0) ≡ 0 = ap (λ (i : ℕ). v / 2 ^ i) (sub-zero w) ∙ div-eq_of_lt h in
    (omega arith, omega arith, omega arith)

module _ (v w n lo hi r : ℕ) where
  pub live_more : r < w → (v / 2 ^ (w - r - 1) < lo / 2 ^ (n - r - 1) → ⊥) → (hi / 2 ^ (n - r - 1) < v / 2 ^ (w - r - 1) → ⊥) → LiveTo v w n lo hi (r + 1)
  live_more h l g =
      let x : w - r - 1 ≡ w - (r + 1) = omega arith in
      let y : n - r - 1 ≡ n - (r + 1) = omega arith in
      (omega arith, subst₂ (λ (i j : ℕ). lo / 2 ^ i ≤ v / 2 ^ j) y x (omega (arith, l)), subst₂ (λ (i j : ℕ). v / 2 ^ j ≤ hi / 2 ^ i) y x (omega (arith, g)))

  pub live_upto : LiveTo v w n lo hi r → (v / 2 ^ (w - r - 1) < lo / 2 ^ (n - r - 1)) ⊎ (hi / 2 ^ (n - r - 1) < v / 2 ^ (w - r - 1)) → Live v w n lo hi r
  live_upto a d = record { upto = a.0; low = a.1; high = a.2; dead = λ h. d }

  pub live_all : LiveTo v w n lo hi r → w ≤ r → Live v w n lo hi w
  live_all a h =
      let e : r ≡ w = omega (arith, a.0) in
      record { upto = le_refl w; low = subst (λ (i : ℕ). lo / 2 ^ (n - i) ≤ v / 2 ^ (w - i)) e a.1; high = subst (λ (i : ℕ). v / 2 ^ (w - i) ≤ hi / 2 ^ (n - i)) e a.2; dead = λ k. absurd (omega arith) }

-- where all w bits together are dead, not all of them live
live_less : (v w n lo hi r : ℕ) → Live v w n lo hi r → (v < lo / 2 ^ (n - w)) ⊎ (hi / 2 ^ (n - w) < v) → r < w
live_less v w n lo hi r a d = go (dec_lt r w)
  where
    z : w - w ≡ 0
    z = omega arith

    whole : r ≡ w → (lo / 2 ^ (n - w) ≤ v) × (v ≤ hi / 2 ^ (n - w))
    whole e =
        let x = subst (λ (i : ℕ). lo / 2 ^ (n - i) ≤ v / 2 ^ (w - i)) e a.low in
        let y = subst (λ (i : ℕ). v / 2 ^ (w - i) ≤ hi / 2 ^ (n - i)) e a.high in
        let q : v / 2 ^ (w - w) ≡ v = ap (λ (i : ℕ). v / 2 ^ i) z ∙ div-one v in
        (rw q at x, rw q at y)

    outside : (v < lo / 2 ^ (n - w)) ⊎ (hi / 2 ^ (n - w) < v) → (lo / 2 ^ (n - w) ≤ v) × (v ≤ hi / 2 ^ (n - w)) → ⊥
    outside (inl p) g = omega (arith, g.0)
    outside (inr p) g = omega (arith, g.1)

    go : Dec (r < w) → r < w
    go (yes p) = p
    go (no p) = absurd (outside d (whole (omega (arith, a.upto))))

-- ---- the same at a cursor

-- of the n bits of a field those that are left, w of them, were read, and stand for v
pub record FieldRead (s : List ℕ) (c : Cursor) (n lo hi w v : ℕ) (d : Cursor) : Type 0 where
  pub within : Within c (length s)
  pub order : lo ≤ hi
  pub high : hi < 2 ^ n
  pub width : w ≡ min n (c.stop.0 - c.at.0)
  pub taken : Taken (fixed w) s c v d

module _ {s : List ℕ} {c : Cursor} {n lo hi w v : ℕ} {d : Cursor} (read : FieldRead s c n lo hi w v d) where
  -- the w bits that were read
  seen : take w (left c s) ≡ in_bits w v
  seen = ap (take w) read.taken.takes.front ∙ take_at (in_bits w v) (left d s) w (length_in_bits w v)

  there : w ≤ length (left c s)
  there = let e = ap length read.taken.takes.front ∙ length-append (in_bits w v) (left d s) in let f = length_in_bits w v in omega arith

  val_seen : val (take w (left c s)) ≡ v
  val_seen = ap val seen ∙ val_in_bits w v ∙ mod-eq_of_lt read.taken.takes.valid

  pub range_took : n - w ≡ 0 → lo / 2 ^ (n - w) ≤ v → v ≤ hi / 2 ^ (n - w) → ToldWord (Among n lo hi) (in_bits n) s c (Ok (v, d))
  range_took z low high =
      let e : w ≡ n = omega (arith, read.width) in
      let t = read.taken in
      let among : Among n lo hi v = (rw (z, div-one) at low, rw (z, div-one) at high, subst (λ (i : ℕ). v < 2 ^ i) e t.takes.valid) in
      took (record { takes = record { valid = among; front = t.takes.front ∙ ap (λ (i : ℕ). in_bits i v ++ left d s) e }; within = t.within; stop = t.stop })

  pub range_cut : (n - w ≡ 0 → ⊥) → lo / 2 ^ (n - w) ≤ v → v ≤ hi / 2 ^ (n - w) → ToldWord (Among n lo hi) (in_bits n) s c (Err Cut)
  range_cut some x y =
      let e : w < n = omega (arith, some, read.width) in
      let f : w ≡ c.stop.0 - c.at.0 = omega (arith, read.width) in
      let m : ℕ = n - w - 1 in
      let q : n - w ≡ suc m = omega arith in
      let l : left c s ≡ in_bits w v = sym (take_all w (left c s) (omega (arith, length_left s c read.within))) ∙ seen in
      let z : val (in_bits w v) ≡ v = val_in_bits w v ∙ mod-eq_of_lt read.taken.takes.valid in
      let g : length (in_bits w v) + suc m ≡ n = ap (λ (i : ℕ). i + suc m) (length_in_bits w v) ∙ omega arith in
      cut (subst (Stops (Among n lo hi) (in_bits n)) (sym l) (range_stops n lo hi read.order read.high (in_bits w v) m g (subst₂ (λ (i j : ℕ). lo / 2 ^ i ≤ j) q (sym z) x) (subst₂ (λ (i j : ℕ). j ≤ hi / 2 ^ i) q (sym z) y)))

  -- the first r of them live, and one more does not
  dead_after : (r : ℕ) → r < w → Live v w n lo hi r → ToldWord (Among n lo hi) (in_bits n) s c (Err (Bad (onward c r).at))
  dead_after r l a =
      let k : w ≤ n = omega (arith, read.width) in
      let m : ℕ = n - r - 1 in
      let q : n - r ≡ suc m = omega arith in
      let x : List Bool = take r (left c s) in
      let len = length_left s c read.within in
      let i : r < length (left c s) = omega (arith, there) in
      let y : Bool = get_or (left c s) r false in
      let e : drop r (left c s) ≡ y ∷ drop (suc r) (left c s) = drop-cons (left c s) r false i in
      let f : left c s ≡ x ++ y ∷ drop (suc r) (left c s) = sym (take-append-drop r (left c s)) ∙ ap (λ (z : List Bool). x ++ z) e in
      let g : val x ≡ v / 2 ^ (w - r) = val_front (left c s) w r there (omega arith) ∙ ap (λ (z : ℕ). z / 2 ^ (w - r)) val_seen in
      let j : val (x ++ y ∷ []) ≡ v / 2 ^ (w - r - 1) =
      ap val (sym (take-suc (left c s) r false i)) ∙ val_front (left c s) w (suc r) there l ∙ ap₂ (λ (z u : ℕ). z / 2 ^ u) val_seen (omega arith) in
      let p : length x + suc m ≡ n = ap (λ (z : ℕ). z + suc m) (length-take-le r (left c s) (omega arith)) ∙ omega arith in
      let ll : lo / 2 ^ suc m ≤ val x = subst₂ (λ (z u : ℕ). lo / 2 ^ z ≤ u) q (sym g) a.low in
      let lh : val x ≤ hi / 2 ^ suc m = subst₂ (λ (z u : ℕ). u ≤ hi / 2 ^ z) q (sym g) a.high in
      let dd : (val (x ++ y ∷ []) < lo / 2 ^ m) ⊎ (hi / 2 ^ m < val (x ++ y ∷ [])) = subst (λ (z : ℕ). (z < lo / 2 ^ m) ⊎ (hi / 2 ^ m < z)) (sym j) (a.dead l) in
      bad {p = (onward c r).at} (subst₂ (Dies (Among n lo hi) (in_bits n)) (sym f) (sym (left_onward s c read.within r ∙ e)) (range_dies n lo hi read.order read.high x (drop (suc r) (left c s)) y m p ll lh dd)) (omega (arith, read.within.order))

  pub range_bad : {r : ℕ} {p : BitPos} → (v < lo / 2 ^ (n - w)) ⊎ (hi / 2 ^ (n - w) < v) → Live v w n lo hi r → p ≡ (onward c r).at → ToldWord (Among n lo hi) (in_bits n) s c (Err (Bad p))
  range_bad {r} outside a e = rw e (dead_after r (live_less v w n lo hi r a outside) a)
