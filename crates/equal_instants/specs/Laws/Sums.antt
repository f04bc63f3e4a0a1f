-- What instants add up to, and that the two sums are the value at a place and the number below a sought one.
use Rattle.std.specs.Prelude.{◌≡◌, refl, Bool, true, false, cond, List, [], ◌∷◌, ◌++◌, map, ℕ, zero, suc, ◌+◌, ◌-◌, ◌≤◌, ◌<◌, ltb, pos, length, get_or, replicate}
use Rattle.std.proofs.Common.{sym, ap, ◌∙◌, arith, lt-ltb, le-ltb, eq-eqb, ne_eqb}
use Rattle.std.proofs.lemmas.List.{length-replicate, get_or-replicate}
use Rattle.std.proofs.Math.ListN.{get_or-eq_default}
use Rattle.format.specs.Reading.{below}
use Rattle.equal_instants.specs.Sums.{total, at_place, is_below, Sums}

-- ---- whatever instants weigh

total_append : (weight : ℕ → ℕ → ℕ) (start : ℕ) (ts us : List ℕ) → total weight start (ts ++ us) ≡ total weight start ts + total weight (start + length ts) us
total_append weight start [] us = let e : start ≡ start + 0 = omega arith in ap (λ (k : ℕ). total weight k us) e ∙ omega arith
total_append weight start (t ∷ ts) us =
    let e : suc start + length ts ≡ start + suc (length ts) = omega arith in
    let h = total_append weight (suc start) ts us ∙ ap (λ (k : ℕ). total weight (suc start) ts + total weight k us) e in
    omega arith

total_middle : (weight : ℕ → ℕ → ℕ) (start i t : ℕ) (ls rs : List ℕ) → length ls ≡ i
    → total weight start (ls ++ t ∷ rs) ≡ total weight start ls + total weight (start + i) (t ∷ []) + total weight (start + i + 1) rs
total_middle weight start i t ls rs e =
    let h = total_append weight start ls (t ∷ rs) ∙ ap (λ (k : ℕ). total weight start ls + total weight (start + k) (t ∷ rs)) e in
    let f : suc (start + i) ≡ start + i + 1 = omega arith in
    let k = ap (λ (k : ℕ). total weight k rs) f in
    omega arith

module _ {place sought start : ℕ} where
  pub sums_none : Sums place sought start [] 0 0
  sums_none = record { value_is = refl; less_is = refl }

  -- an instant and those on its two sides
  pub sums_middle : {i t a b value₁ less₁ value₂ less₂ : ℕ} {ls rs : List ℕ} → length ls ≡ i → Sums place sought start ls value₁ less₁
      → Sums place sought (start + i) (t ∷ []) a b → Sums place sought (start + i + 1) rs value₂ less₂
      → Sums place sought start (ls ++ t ∷ rs) (value₁ + a + value₂) (less₁ + b + less₂)
  sums_middle {i} {t} {ls = ls} {rs = rs} e l m r = record {
    value_is = omega (arith, total_middle (at_place place) start i t ls rs e, l.value_is, m.value_is, r.value_is);
    less_is = omega (arith, total_middle (is_below sought) start i t ls rs e, l.less_is, m.less_is, r.less_is);
  }

-- ---- the value at a place

-- places before the first
pub value_before : (place start : ℕ) (ts : List ℕ) → place < start → total (at_place place) start ts ≡ 0
unfolding at_place
value_before place start [] h = refl
value_before place start (t ∷ ts) h = rw (ne_eqb start place (λ e. omega arith)) (omega (arith, value_before place (suc start) ts (omega arith)))

pub value_from : (k start : ℕ) (ts : List ℕ) → total (at_place (start + k)) start ts ≡ get_or ts k 0
unfolding at_place
value_from k start [] = refl
value_from zero start (t ∷ ts) = rw (eq-eqb start (start + 0) (omega arith)) (omega (arith, value_before (start + 0) (suc start) ts (omega arith)))
value_from (suc k) start (t ∷ ts) =
    let e : start + suc k ≡ suc start + k = omega arith in
    rw (ne_eqb start (start + suc k) (λ e. omega arith)) (omega (arith, ap (λ (p : ℕ). total (at_place p) (suc start) ts) e ∙ value_from k (suc start) ts))

-- ---- how many are below the one sought

pub below_is : (sought start : ℕ) (ts : List ℕ) → total (is_below sought) start ts ≡ below sought (map pos ts)
unfolding is_below
below_is sought start [] = refl
below_is sought start (t ∷ ts) = either (ltb t sought) (total (is_below sought) (suc start) ts) (below sought (map pos ts)) (below_is sought (suc start) ts)
  where
    either : (b : Bool) (x y : ℕ) → x ≡ y → cond b 1 0 + x ≡ elim b [ true ↦ suc y | false ↦ y ]
    either true x y e = omega arith
    either false x y e = omega arith

-- ---- equal instants

module _ (place start n t : ℕ) where
  at_equal : start ≤ place → total (at_place place) start (replicate n t) ≡ get_or (replicate n t) (place - start) 0
  at_equal h =
      let e : place ≡ start + (place - start) = omega arith in
      ap (λ (p : ℕ). total (at_place p) start (replicate n t)) e ∙ value_from (place - start) start (replicate n t)

  pub equal_here : start ≤ place → place - start < n → t ≡ total (at_place place) start (replicate n t)
  equal_here h l = sym (at_equal h ∙ get_or-replicate n (place - start) t 0 l)

  pub equal_after : start ≤ place → n ≤ place - start → 0 ≡ total (at_place place) start (replicate n t)
  equal_after h l = sym (at_equal h ∙ get_or-eq_default (replicate n t) 0 (rw (length-replicate n t) l))

pub equal_below : (sought start n t : ℕ) → t < sought → n ≡ total (is_below sought) start (replicate n t)
unfolding is_below
equal_below sought start zero t h = refl
equal_below sought start (suc n) t h = rw (lt-ltb t sought h) (omega (arith, equal_below sought (suc start) n t h))

pub equal_above : (sought start n t : ℕ) → sought ≤ t → 0 ≡ total (is_below sought) start (replicate n t)
unfolding is_below
equal_above sought start zero t h = refl
equal_above sought start (suc n) t h = rw (le-ltb t sought h) (omega (arith, equal_above sought (suc start) n t h))
