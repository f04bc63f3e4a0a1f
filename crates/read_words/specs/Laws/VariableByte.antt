-- Variable-byte, a flag and a group at a time. The groups read so far are a number, and what is left to read are the words that begin with them.
use Rattle.std.specs.Prelude.{◌≡◌, Result, Ok, Err, Bool, List, [], ◌∷◌, ◌++◌, length}
use Rattle.std.proofs.Math.Path.{refl, sym, ap}
use Rattle.std.proofs.Common.{ap₂, ◌∙◌, subst, pow-suc, div-mul-le_self, mul-le-mul_left, zero-lt-suc, le-div_iff_mul-le}
use Prim.Native.Nat.{ℕ, zero, suc, ◌+◌, ◌-◌, ◌*◌, ◌/◌, ◌%◌, ◌^◌, ◌≤◌, ◌<◌}
use Rattle.std.proofs.Math.Nat.{pow-le-pow_right, div-div-eq-div-mul, div-one, one-le-pow, div-eq_of_lt, sub-zero}
use native.Mathlib.Omega.{arith}
use Rattle.layout.specs.Bits.{odd, in_bits}
use Rattle.layout.specs.Layout.{PrefixFree, word}
use Rattle.layout.proofs.Laws.Beginnings.{splits_free}
use Rattle.layout.proofs.Laws.Bits.{in_bits_split, in_bits_mod, in_bits_one}
use Rattle.layout.proofs.Laws.Parts.{Parts}
use Rattle.format.specs.Limits.{largest_word, word_groups}
use Rattle.format.specs.Codes.{Word, digits, another, groups, variable_byte}
use Rattle.format.specs.Restated.{Held}
use Rattle.format.proofs.Laws.Digits.{held_one}
use Rattle.format.proofs.Laws.Codes.{grouped_word}
use Rattle.bits.specs.Cursor.{Within, left, Taken}
use Rattle.bits.specs.declared.Cursor.{Cursor}
use Rattle.read_words.specs.Told.{ToldWord, took, Among}
use Rattle.read_words.specs.Laws.Told.{first_refused, second_refused, second_told}
use Rattle.read_words.specs.declared.NoWord.{NoWord}

-- ---- a flag and a group

-- a flag of at most `most` and a group of at least lo, as one number of eight bits
abbrev pub FlagAndGroup : ℕ → ℕ → ℕ → Type 0
FlagAndGroup most lo v = (v / 128 ≤ most) × (lo ≤ v % 128) × (v < 256)

-- fields of one width, none the beginning of another
free_field : (n : ℕ) (ok : ℕ → Type 0) → ((v : ℕ) → ok v → v < 2 ^ n) → PrefixFree ok (in_bits n)
free_field n ok fits = splits_free (λ a b h l. in_bits_one n a b (fits a h) (fits b l))

module _ (most lo : ℕ) (h : most ≤ 1) (l : lo ≤ 1) where
  pub unit_made : (flag x : ℕ) → Among 1 0 most flag → Among 7 lo 127 x → FlagAndGroup most lo (flag * 128 + x) × ◌≡◌ {A = ℕ × ℕ} ((flag * 128 + x) / 128, (flag * 128 + x) % 128) (flag, x)
  unit_made flag x (_, k, f) (m, _, g) = ((omega arith, omega arith, omega arith), ap₂ (λ (a b : ℕ). (a, b)) (omega arith) (omega arith))

  pub unit_parts : Parts (Among 1 0 most) (in_bits 1) (λ flag. Among 7 lo 127) (λ flag. in_bits 7) (FlagAndGroup most lo) (in_bits 8)
  unit_parts =
      record {
        parts = λ v. (v / 128, v % 128);
        free = free_field 1 (Among 1 0 most) (λ v k. k.2);
        some = λ flag k. (127, (omega arith, omega arith, omega arith));
        to = λ v k. (
          ((omega arith, k.0, omega (arith, k.2)), (k.1, omega arith, omega arith)),
          in_bits_split 1 7 v ∙ ap (λ (x : List Bool). in_bits 1 (v / 128) ++ x) (sym (in_bits_mod 7 v)),
        );
        from = λ flag x k m. let (u, q) = unit_made flag x k m in (flag * 128 + x, u, q);
      }

  pub unit_told : {s : List ℕ} {c d e : Cursor} {flag x : ℕ} → Taken (word (Among 1 0 most) (in_bits 1)) s c flag d → ToldWord (Among 7 lo 127) (in_bits 7) s d (Ok (x, e))
      → ToldWord (FlagAndGroup most lo) (in_bits 8) s c (Ok (flag * 128 + x, e))
  unfolding unit_parts
  unit_told {flag = flag} {x = x} t = second_told unit_parts t (unit_made flag x t.takes.valid)

-- ---- the words that begin with the groups read so far

-- how many groups a word has
abbrev size7 : ℕ → ℕ
size7 w = digits 128 word_groups w

size_is : (w i : ℕ) → Word w → Held 128 w i → size7 w ≡ suc i
size_is w i h k = let (m, e, l) = grouped_word h in e ∙ ap suc (held_one (omega arith) l k)

-- acc may be the first i groups of a word of more
abbrev pub State : ℕ → ℕ → Type 0
State zero acc = acc ≡ 0
State (suc i) acc = Held 128 acc i × (acc * 128 ≤ largest_word)

-- the flag and the group that may come next: the first group is not 0, and no other may follow this one where acc * 128 * 128 is no
-- word any more, that is from 262144 = 2 ^ 32 / 128 ^ 2 on
abbrev pub NextGroup : ℕ → ℕ → Type 0
NextGroup acc = FlagAndGroup (1 - acc / 262144) (1 - acc)

-- the flag of a group after which g more come
abbrev flag_of : ℕ → ℕ
flag_of zero = 0
flag_of (suc g) = 1

-- the words of which acc are the first i groups, and more follow where the flag is 1; and their bits from there
pub record Rest (i acc flag w : ℕ) : Type 0 where
  pub word : Word w
  pub g : ℕ
  pub size : size7 w ≡ i + g
  pub top : w / 128 ^ g ≡ acc
  pub more : flag_of g ≡ flag

abbrev pub rest_bits : ℕ → ℕ → List Bool
rest_bits i w = groups (size7 w - i) w

-- the groups before the last g of w, and before the last suc g
shift : (w g : ℕ) → w / 128 ^ g / 128 ≡ w / 128 ^ suc g
shift w g = div-div-eq-div-mul w (128 ^ g) 128 ∙ ap (λ (n : ℕ). w / n) (sym (pow-suc 128 g))

room_for : (i acc : ℕ) → State i acc → acc * 128 ≤ largest_word
room_for zero acc s = omega arith
room_for (suc i) acc s = s.1

-- one group more
next_held : (i acc x : ℕ) → State i acc → x < 128 → 1 - acc ≤ x → Held 128 (acc * 128 + x) i
next_held zero acc x s h l = record { low = omega arith; high = omega arith }
next_held (suc i) acc x s h l = record { low = omega arith; high = omega arith }

-- the first group is not 0
first_group : (i acc w g : ℕ) → State i acc → Word w → size7 w ≡ i + suc g → w / 128 ^ suc g ≡ acc → 1 - acc ≤ (w / 128 ^ g) % 128
first_group (suc i) acc w g s h e t =
    let b = one-le-pow i 128 (omega arith) in
    omega arith
first_group zero acc w g s h e t =
    let (m, f, k) = grouped_word h in
    let q : m ≡ g = omega arith in
    let p : 128 ^ g ≤ w = subst (λ (n : ℕ). 128 ^ n ≤ w) q k.low in
    let y : 1 ≤ w / 128 ^ g = (le-div_iff_mul-le (one-le-pow g 128 (omega arith))).1 (omega arith) in
    let z : w / 128 ^ g / 128 ≡ acc = shift w g ∙ t in
    omega arith

-- where a group is followed by another, acc and two groups more are a word
flag_room : (acc w g : ℕ) → Word w → w / 128 ^ suc g ≡ acc → flag_of g ≤ 1 - acc / 262144
flag_room acc w zero h e = omega arith
flag_room acc w (suc g) h e =
    let b : acc * 128 ^ suc (suc g) ≤ w = subst (λ (n : ℕ). n * 128 ^ suc (suc g) ≤ w) e (div-mul-le_self w (128 ^ suc (suc g))) in
    let p : 16384 ≤ 128 ^ suc (suc g) = pow-le-pow_right {n = 128} (zero-lt-suc 127) {i = 2} {j = suc (suc g)} (omega arith) in
    let c = mul-le-mul_left acc p in
    omega arith

-- the next flag and group of w, where g groups come after them
unit_of : ℕ → ℕ → ℕ
unit_of g w = flag_of g * 128 + (w / 128 ^ g) % 128

flag_bit : (g : ℕ) → in_bits 1 (flag_of g) ≡ another g ∷ []
unfolding in_bits odd
flag_bit zero = refl
flag_bit (suc g) = refl

flag_le : (g : ℕ) → flag_of g ≤ 1
flag_le zero = omega arith
flag_le (suc g) = omega arith

-- they are the next eight bits
unit_bits : (g w : ℕ) → groups (suc g) w ≡ in_bits 8 (unit_of g w) ++ groups g w
unfolding groups unit_of
unit_bits g w =
    let n : ℕ = w / 128 ^ g in
    let v : ℕ = flag_of g * 128 + n % 128 in
    let a : v / 128 ≡ flag_of g = omega arith in
    let b : v % 128 ≡ n % 128 = omega arith in
    let low : in_bits 7 v ≡ in_bits 7 n = sym (in_bits_mod 7 v) ∙ ap (in_bits 7) b ∙ in_bits_mod 7 n in
    let e : in_bits 8 v ≡ another g ∷ in_bits 7 n = in_bits_split 1 7 v ∙ ap₂ (λ (x y : List Bool). x ++ y) (ap (in_bits 1) a ∙ flag_bit g) low in
    ap (λ (x : List Bool). x ++ groups g w) (sym e)

module _ (i acc : ℕ) (st : State i acc) where
  -- for each flag and group there is a word: where another follows, let it be 0
  some_rest : (flag x : ℕ) → flag ≤ 1 - acc / 262144 → 1 - acc ≤ x → x < 128 → (w : ℕ) × Rest (suc i) (acc * 128 + x) flag w
  some_rest zero x h l k =
      let r = room_for i acc st in
      let v : Word (acc * 128 + x) = (omega arith, omega arith) in
      let e = size_is (acc * 128 + x) i v (next_held i acc x st k l) in
      (acc * 128 + x, record { word = v; g = 0; size = omega arith; top = div-one (acc * 128 + x); more = refl })
  some_rest (suc zero) x h l k =
      let n = next_held i acc x st k l in
      let c = one-le-pow i 128 (omega arith) in
      let v : Word ((acc * 128 + x) * 128) = (omega arith, omega arith) in
      let e = size_is ((acc * 128 + x) * 128) (suc i) v (record { low = omega arith; high = omega arith }) in
      ((acc * 128 + x) * 128, record { word = v; g = 1; size = omega arith; top = omega arith; more = refl })
  some_rest (suc (suc f)) x h l k = absurd (omega arith)

  -- a word of the rest after a flag and a group is a word of the rest before them
  before : (v w : ℕ) → v < 256 → Rest (suc i) (acc * 128 + v % 128) (v / 128) w → Rest i acc 1 w × (unit_of (size7 w - suc i) w ≡ v)
  unfolding unit_of
  before v w h r =
      let q : size7 w - suc i ≡ r.g = omega arith in
      (record { word = r.word; g = suc r.g; size = omega arith; top = sym (shift w r.g) ∙ omega arith; more = refl }, rw q (omega arith))

  -- and the other way round
  after : (w g : ℕ) → Word w → size7 w ≡ i + suc g → w / 128 ^ suc g ≡ acc
      → NextGroup acc (unit_of g w) × Rest (suc i) (acc * 128 + unit_of g w % 128) (unit_of g w / 128) w
  unfolding unit_of
  after w g h e t =
      let n : ℕ = w / 128 ^ g in
      let z : n / 128 ≡ acc = shift w g ∙ t in
      let a = flag_room acc w g h t in
      let b = first_group i acc w g st h e t in
      let c = flag_le g in
      ((omega arith, omega arith, omega arith), record { word = h; g = g; size = omega arith; top = omega arith; more = omega arith })

  rest_parts : Parts (NextGroup acc) (in_bits 8) (λ v. Rest (suc i) (acc * 128 + v % 128) (v / 128)) (λ v. rest_bits (suc i)) (Rest i acc 1) (rest_bits i)
  rest_parts =
      record {
        parts = λ w. (unit_of (size7 w - suc i) w, w);
        free = free_field 8 (NextGroup acc) (λ v k. k.2);
        some = λ v k. some_rest (v / 128) (v % 128) k.0 k.1 (omega arith);
        to = λ w k. back w k.g k k.more refl;
        from = λ v w k r. let (u, e) = before v w k.2 r in (w, u, ap (λ (x : ℕ). (x, w)) e);
      }
    where
      back : (w g : ℕ) (k : Rest i acc 1 w) → flag_of g ≡ 1 → k.g ≡ g
          → (NextGroup acc (unit_of (size7 w - suc i) w) × Rest (suc i) (acc * 128 + unit_of (size7 w - suc i) w % 128) (unit_of (size7 w - suc i) w / 128) w)
          × (rest_bits i w ≡ in_bits 8 (unit_of (size7 w - suc i) w) ++ rest_bits (suc i) w)
      back w zero k f p = let z : ◌≡◌ {A = ℕ} 0 1 = f in absurd (omega arith)
      back w (suc g) k f p =
          let e : size7 w ≡ i + suc g = k.size ∙ ap (λ (n : ℕ). i + n) p in
          let t : w / 128 ^ suc g ≡ acc = ap (λ (n : ℕ). w / 128 ^ n) (sym p) ∙ k.top in
          let q : size7 w - suc i ≡ g = omega arith in
          let r : size7 w - i ≡ suc g = omega arith in
          rw (q, r) (after w g k.word e t, unit_bits g w)

-- ---- at a cursor

-- the groups acc have been read from c as far as d: what is told of the rest there is told of the word at c
pub record Reached (s : List ℕ) (c : Cursor) (acc : ℕ) (d : Cursor) : Type 0 where
  pub within : Within d (length s)
  pub room : acc * 128 ≤ largest_word
  pub i : ℕ
  pub state : State i acc
  pub told : {r : Result (ℕ × Cursor) NoWord} → ToldWord (Rest i acc 1) (rest_bits i) s d r → ToldWord Word variable_byte s c r

module _ {s : List ℕ} {c : Cursor} {acc : ℕ} {d : Cursor} (h : Reached s c acc d) where
  -- a word whose next flag and group are cut short, or dead at a bit, is so itself
  pub unit_refused : {e : NoWord} → ToldWord (NextGroup acc) (in_bits 8) s d (Err e) → ToldWord Word variable_byte s c (Err e)
  unit_refused k = h.told (first_refused (rest_parts h.i acc h.state) k)

  module _ {v : ℕ} {e : Cursor} (t : Taken (word (NextGroup acc) (in_bits 8)) s d v e) where
    -- what is told of the rest after a flag and a group
    told_after : (r : Result (ℕ × Cursor) NoWord) → ToldWord (Rest (suc h.i) (acc * 128 + v % 128) (v / 128)) (rest_bits (suc h.i)) s e r → ToldWord Word variable_byte s c r
    unfolding rest_parts
    told_after (Ok (w, f)) k =
        h.told (second_told (rest_parts h.i acc h.state) t (λ u. let (k, q) = before h.i acc h.state v w t.takes.valid.2 u in (k, ap (λ (x : ℕ). (x, w)) q)) k)
    told_after (Err e) k = h.told (second_refused (rest_parts h.i acc h.state) t k)

    -- no group follows
    pub last : v / 128 ≡ 0 → ToldWord Word variable_byte s c (Ok (acc * 128 + v % 128, e))
    unfolding groups
    last z =
        let w : ℕ = acc * 128 + v % 128 in
        let (_, l, _) = t.takes.valid in
        let k : Word w = (omega arith, omega arith) in
        let n = size_is w h.i k (next_held h.i acc (v % 128) h.state (omega arith) l) in
        let q : size7 w - suc h.i ≡ 0 = omega arith in
        let u : Rest (suc h.i) w (v / 128) w = record { word = k; g = 0; size = omega arith; top = div-one w; more = sym z } in
        told_after (Ok (w, e)) (took (record { takes = record { valid = u; front = ap (λ (m : ℕ). groups m w ++ left e s) (sym q) }; within = t.within; stop = refl }))

    -- another one follows
    pub next : 1 ≤ v / 128 → Reached s c (acc * 128 + v % 128) e
    next z =
        let (a, l, f) = t.takes.valid in
        let q : v / 128 ≡ 1 = omega arith in
        record {
          within = t.within;
          room = omega arith;
          i = suc h.i;
          state = (next_held h.i acc (v % 128) h.state (omega arith) l, omega arith);
          told = λ {r} k. told_after r (subst (λ (x : ℕ). ToldWord (Rest (suc h.i) (acc * 128 + v % 128) x) (rest_bits (suc h.i)) s e r) (sym q) k);
        }

-- before anything has been read all the groups are left: a word is no bits, and then its groups
whole : Parts (λ (a : ℕ). a ≡ 0) (λ a. []) (λ a. Rest 0 0 1) (λ a. rest_bits 0) Word variable_byte
unfolding variable_byte
whole =
    record {
      parts = λ w. (0, w);
      free = λ a b x h l e. h ∙ sym l;
      some = λ a h. (1, all 1 (omega arith, omega arith));
      to = λ w h. ((refl, all w h), ap (λ (n : ℕ). groups n w) (sym (sub-zero (size7 w))));
      from = λ a w h r. (w, r.word, ap (λ (x : ℕ). (x, w)) (sym h));
    }
  where
    all : (w : ℕ) → Word w → Rest 0 0 1 w
    all w h = let (m, e, k) = grouped_word h in record { word = h; g = suc m; size = omega arith; top = div-eq_of_lt k.high; more = refl }

pub start : (s : List ℕ) (c : Cursor) → Within c (length s) → Reached s c 0 c
unfolding whole
start s c h = record { within = h; room = omega arith; i = 0; state = refl; told = λ {r}. told r }
  where
    none : Taken (word (λ (a : ℕ). a ≡ 0) (λ a. [])) s c 0 c
    none = record { takes = record { valid = refl; front = refl }; within = h; stop = refl }

    told : (r : Result (ℕ × Cursor) NoWord) → ToldWord (Rest 0 0 1) (rest_bits 0) s c r → ToldWord Word variable_byte s c r
    told (Ok (w, f)) k = second_told whole none (λ u. (u.word, refl)) k
    told (Err e) k = second_refused whole none k
