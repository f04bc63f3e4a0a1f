-- The fewest digits that hold a number.
use Rattle.std.specs.Prelude.{◌≡◌, refl, Bool, true, false, ℕ, zero, suc, ◌-◌, ◌^◌, ◌≤◌, ◌<◌, T, ltb}
use Rattle.std.proofs.Common.{sym, subst, le_refl, arith, ltb→lt, nltb→le}
use Rattle.std.proofs.Math.Nat.{pow-zero, pow-le-pow_right}
use Rattle.std.proofs.Math.Decide.{dec_lt, dec_le}
use Rattle.format.specs.Codes.{digits}
use Rattle.format.specs.Interpolative.{width}
use Rattle.format.specs.Restated.{Held}
-- the table and the worked cases come first: a definition that no longer gives their numbers is refused there, whatever the proofs below make of it
use Rattle.format.specs.Table
use Rattle.format.proofs.Laws.Cases

pub digits_held : (b f n : ℕ) → 0 < n → n < b ^ f → (m : ℕ) × (digits b f n ≡ suc m) × Held b n m
unfolding digits
digits_held b zero n h l = let z = pow-zero b in absurd (omega arith)
digits_held b (suc f) n h l = go (digits_held b f n h) (ltb n (b ^ f)) refl
  where
    go : (n < b ^ f → (m : ℕ) × (digits b f n ≡ suc m) × Held b n m) → (c : Bool) → ltb n (b ^ f) ≡ c
        → (m : ℕ) × (digits b (suc f) n ≡ suc m) × Held b n m
    go ih true e = rw (e, digits) (ih (ltb→lt _ _ (subst T (sym e) tt)))
    go ih false e = (f, rw (e, digits), record { low = nltb→le _ _ (rw e tt); high = l })

pub digits_le : (b f n : ℕ) → digits b f n ≤ f
unfolding digits
digits_le b zero n = le_refl 0
digits_le b (suc f) n = go (digits_le b f n) (ltb n (b ^ f)) refl
  where
    go : digits b f n ≤ f → (c : Bool) → ltb n (b ^ f) ≡ c → digits b (suc f) n ≤ suc f
    go ih true e = rw (e, digits) (omega arith)
    go ih false e = rw (e, digits) (le_refl (suc f))

-- they hold it
pub digits_hold : (b f n : ℕ) → n < b ^ f → n < b ^ digits b f n
unfolding digits
digits_hold b zero n h = h
digits_hold b (suc f) n h = go (digits_hold b f n) (ltb n (b ^ f)) refl
  where
    go : (n < b ^ f → n < b ^ digits b f n) → (c : Bool) → ltb n (b ^ f) ≡ c → n < b ^ digits b (suc f) n
    go ih true e = rw (e, digits) (ih (ltb→lt _ _ (subst T (sym e) tt)))
    go ih false e = rw (e, digits) h

-- and fewer do not
pub digits_fewest : (b f n d : ℕ) → 0 < b → n < b ^ d → digits b f n ≤ d
unfolding digits
digits_fewest b zero n d p h = omega arith
digits_fewest b (suc f) n d p h = go (digits_fewest b f n d p h) (ltb n (b ^ f)) refl (dec_le d f)
  where
    go : digits b f n ≤ d → (c : Bool) → ltb n (b ^ f) ≡ c → Dec (d ≤ f) → digits b (suc f) n ≤ d
    go ih true e q = rw (e, digits) ih
    go ih false e (yes q) =
        let k = pow-le-pow_right {n = b} p {i = d} {j = f} q in
        let l : b ^ f ≤ n = nltb→le _ _ (rw e tt) in
        absurd (omega arith)
    go ih false e (no q) = rw (e, digits) (omega arith)

pub held_one : {b n m k : ℕ} → 0 < b → Held b n m → Held b n k → m ≡ k
held_one {b} {n} {m} {k} z h l = go (dec_lt m k) (dec_lt k m)
  where
    go : Dec (m < k) → Dec (k < m) → m ≡ k
    go (yes p) q = let s = pow-le-pow_right {n = b} z {i = suc m} {j = k} p in let x = h.high in let y = l.low in absurd (omega arith)
    go (no p) (yes q) = let s = pow-le-pow_right {n = b} z {i = suc k} {j = m} q in let x = l.high in let y = h.low in absurd (omega arith)
    go (no p) (no q) = omega arith

-- "the fewest bits b with 2^b >= V": they are enough, and fewer are not
pub width_enough : (possible : ℕ) → 1 ≤ possible → possible ≤ 2 ^ 32 → possible ≤ 2 ^ width possible
unfolding width
width_enough possible h l = let k = digits_hold 2 32 (possible - 1) (omega arith) in omega arith

pub width_fewest : (possible b : ℕ) → 1 ≤ possible → possible ≤ 2 ^ b → width possible ≤ b
unfolding width
width_fewest possible b h l = digits_fewest 2 32 (possible - 1) b (omega arith) (omega arith)
