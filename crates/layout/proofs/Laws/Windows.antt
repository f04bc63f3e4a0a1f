-- Bits put over others, and windows of bits.
use Rattle.std.specs.Prelude.{◌≡◌, Bool, List, [], ◌∷◌, ◌++◌, ℕ, zero, suc, ◌+◌, ◌*◌, ◌/◌, ◌%◌, ◌^◌, ◌≤◌, ◌<◌, length, take, drop}
use Rattle.std.proofs.Common.{sym, ap, ap₂, ◌∙◌, append_assoc, zero-add, zero-mul, suc-add, add-zero, add_assoc, lt_of_lt_of_le, arith, pow_mono, shr-shr, length-append, length-take, length-drop, take-append-drop, take-take, take-add, drop-drop, take_at, drop_at, length-take-le}
use Rattle.std.proofs.Math.Seq.{take-nil, drop-append-add}
use Rattle.layout.specs.Bits.{in_bits, zeros, put}
use Rattle.layout.specs.Laws.Bits.{val}
use Rattle.layout.proofs.Laws.Bits.{val_lt, val_append, length_in_bits, in_bits_split, in_bits_cat, in_bits_mod, in_bits_zero}

-- ---- written

pub put_nil : (l : List Bool) (at : ℕ) → put l at [] ≡ l
unfolding put
put_nil l at = ap (λ (k : ℕ). take at l ++ drop k l) (add-zero at) ∙ take-append-drop at l

pub put_more : (l : List Bool) (at : ℕ) (a b : List Bool) → at ≤ length l → put (put l at a) (at + length a) b ≡ put l at (a ++ b)
unfolding put
put_more l at a b h =
    let p = take at l ++ a in
    let e : length p ≡ at + length a = length-append (take at l) a ∙ ap (λ (k : ℕ). k + length a) (length-take-le at l h) in
    let z = drop (at + length a) l in
    ap (λ (x : List Bool). take (at + length a) x ++ (b ++ drop (at + length a + length b) x)) (sym (append_assoc (take at l) a z))
    ∙ ap₂ (λ (x y : List Bool). x ++ (b ++ y)) (take_at p z (at + length a) e)
    (ap (λ (k : ℕ). drop (k + length b) (p ++ z)) (sym e) ∙ drop-append-add p z (length b) ∙ drop-drop (length b) (at + length a) l
    ∙ ap (λ (k : ℕ). drop k l) (add_assoc at (length a) (length b) ∙ ap (λ (k : ℕ). at + k) (sym (length-append a b))))
    ∙ append_assoc (take at l) a (b ++ drop (at + length (a ++ b)) l)
    ∙ ap (λ (x : List Bool). take at l ++ x) (sym (append_assoc a b (drop (at + length (a ++ b)) l)))

-- two parts written side by side are one
pub put_both : {m r : List Bool} (l a b : List Bool) (at n : ℕ) → at ≤ length l → n ≡ length a → m ≡ put l at a → r ≡ put m (at + n) b → r ≡ put l at (a ++ b)
put_both l a b at n h e p q = q ∙ ap₂ (λ (x : List Bool) (k : ℕ). put x (at + k) b) p e ∙ put_more l at a b h

-- a turn of the loop that writes: done bits are written, and w more, with rest still to come
pub put_step : (l : List Bool) (at done w rest v : ℕ) → at ≤ length l
    → put (put l at (in_bits done (v / 2 ^ (rest + w)))) (at + done) (in_bits w (v / 2 ^ rest % 2 ^ w)) ≡ put l at (in_bits (done + w) (v / 2 ^ rest))
put_step l at done w rest v h =
    ap (λ (k : ℕ). put (put l at (in_bits done (v / 2 ^ (rest + w)))) (at + k) (in_bits w (v / 2 ^ rest % 2 ^ w))) (sym (length_in_bits done (v / 2 ^ (rest + w))))
    ∙ put_more l at (in_bits done (v / 2 ^ (rest + w))) (in_bits w (v / 2 ^ rest % 2 ^ w)) h
    ∙ ap (put l at)
    (ap₂ (λ (x y : List Bool). x ++ y) (ap (in_bits done) (sym (shr-shr v rest w))) (in_bits_mod w (v / 2 ^ rest)) ∙ sym (in_bits_split done w (v / 2 ^ rest)))

pub length_put : (l : List Bool) (at : ℕ) (new : List Bool) → at + length new ≤ length l → length (put l at new) ≡ length l
unfolding put
length_put l at new h =
    length-append (take at l) (new ++ drop (at + length new) l)
    ∙ ap₂ (λ (a b : ℕ). a + b) (length-take-le at l (omega arith)) (length-append new (drop (at + length new) l) ∙ ap (λ (k : ℕ). length new + k) (length-drop (at + length new) l))
    ∙ omega arith

-- what stands before it, and what stands after it, has not changed
pub take_put : (l : List Bool) (at : ℕ) (new : List Bool) → at ≤ length l → take at (put l at new) ≡ take at l
unfolding put
take_put l at new h = take_at (take at l) (new ++ drop (at + length new) l) at (length-take-le at l h)

pub drop_put : (l : List Bool) (at : ℕ) (new : List Bool) → at ≤ length l → drop (at + length new) (put l at new) ≡ drop (at + length new) l
unfolding put
drop_put l at new h =
    let z = drop (at + length new) l in
    ap (drop (at + length new)) (sym (append_assoc (take at l) new z))
    ∙ drop_at (take at l ++ new) z (at + length new) (length-append (take at l) new ∙ ap (λ (k : ℕ). k + length new) (length-take-le at l h))

-- what is put is what stands there
pub put_window : (l : List Bool) (start : ℕ) (image : List Bool) → start + length image ≤ length l → drop start (take (start + length image) (put l start image)) ≡ image
unfolding put
put_window l start image h =
    let s : length (take start l) ≡ start = length-take-le start l (omega arith) in
    let e : length (take start l ++ image) ≡ start + length image = length-append (take start l) image ∙ ap (λ (k : ℕ). k + length image) s in
    let z = drop (start + length image) l in
    ap (λ (x : List Bool). drop start (take (start + length image) x)) (sym (append_assoc (take start l) image z))
    ∙ ap (drop start) (take_at (take start l ++ image) z (start + length image) e)
    ∙ drop_at (take start l) image start s

-- ---- read

-- a turn of the loop that reads
pub val_step : (l : List Bool) (at done w : ℕ) → at + done + w ≤ length l
    → val (take (done + w) (drop at l)) ≡ val (take done (drop at l)) * 2 ^ w + val (take w (drop (at + done) l))
val_step l at done w h =
    let m = take w (drop (at + done) l) in
    ap val (take-add done w (drop at l) ∙ ap (λ (x : List Bool). take done (drop at l) ++ take w x) (drop-drop done at l))
    ∙ val_append (take done (drop at l)) m
    ∙ ap (λ (k : ℕ). val (take done (drop at l)) * 2 ^ k + val m) (length-take-le w (drop (at + done) l) (simp length-drop (omega arith)))

pub val_take_lt : (j k : ℕ) (l : List Bool) → k ≤ j → val (take k l) < 2 ^ j
val_take_lt j k l h = lt_of_lt_of_le (val_lt (take k l)) (pow_mono (simp length-take (omega arith)))

drop_take_add : (l : List Bool) (at w : ℕ) → drop at (take (at + w) l) ≡ take w (drop at l)
drop_take_add l zero w = ap (λ (k : ℕ). take k l) (zero-add w)
drop_take_add [] (suc at) w = ap (λ (k : ℕ). drop (suc at) (take k [])) (suc-add at w) ∙ sym (take-nil w)
drop_take_add (x ∷ l) (suc at) w = ap (λ (k : ℕ). drop (suc at) (take k (x ∷ l))) (suc-add at w) ∙ drop_take_add l at w

-- of the bits from `at` up to stop, the first w
pub window_front : (l : List Bool) (at w stop : ℕ) → at + w ≤ stop → take w (drop at (take stop l)) ≡ take w (drop at l)
window_front l at w stop h = sym (drop_take_add (take stop l) at w) ∙ ap (drop at) (take-take (at + w) stop l h) ∙ drop_take_add l at w

-- zeros before a number that its width holds are of the number
pub zeros_lead : (z w : ℕ) {n : ℕ} → n < 2 ^ w → in_bits (z + w) n ≡ zeros z ++ in_bits w n
zeros_lead z w {n} h =
    let e : n ≡ 0 * 2 ^ w + n = sym (ap (λ (k : ℕ). k + n) (zero-mul (2 ^ w)) ∙ zero-add n) in
    ap (in_bits (z + w)) e ∙ in_bits_cat z w 0 h ∙ ap (λ (l : List Bool). l ++ in_bits w n) (in_bits_zero z)
