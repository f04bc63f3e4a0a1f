-- Two answers that satisfy a contract of what judges or keeps a list are equal, whatever sound layout the list has.
use Rattle.std.specs.Prelude.{◌≡◌, Result, Ok, Err, List, ◌++◌, ℕ, ℤ, pos, length, get_or, drop}
use Rattle.std.proofs.Common.{sym, ap, ap₂, ◌∙◌, arith}
use Rattle.layout.specs.Layout.{Layout}
use Rattle.layout.specs.Sound.{Sound}
use Rattle.format.specs.Reading.{below}
use Rattle.bits.specs.Cursor.{Within, left, to, Refuses}
use Rattle.bits.specs.Laws.Same.{bit_same}
use Rattle.bits.specs.declared.BitPos.{BitPos}
use Rattle.bits.specs.declared.Cursor.{Cursor}
use Rattle.reading.specs.Refusals.{refusal_number}
use Rattle.reading.specs.Judging as Judging
use Rattle.reading.specs.Judging.{ToldJudged, ToldKept}
use Rattle.reading.specs.Laws.Refusals.{refusal_same}
use Rattle.reading.specs.Laws.Steps.{no_taken, taken_one, told_at}
use Rattle.reading.specs.declared.Refusal.{Refusal}
use Rattle.reading.specs.declared.Refused.{Refused}
use Rattle.reading.specs.declared.Judged.{Judged}

-- a refusal and the bit that it tells
pub refused_one : {A : Type 0} {L : Layout A} → Sound L → {s : List ℕ} {c : Cursor} → Within c (length s) → {m n : Refusal} {p q : BitPos}
    → Refuses L s c (refusal_number m) p → Refuses L s c (refusal_number n) q → (m ≡ n) × (p ≡ q)
refused_one l {s} {c} w {m} {n} {p} {q} x y =
    let (e, f) = l.sole x.no y.no in
    let a = told_at s c p w x.upto in
    let b = told_at s c q w y.upto in
    let k : length (left (to c p) s) ≡ length (left (to c q) s) = ap length f in
    let j : p.0 ≡ q.0 = omega arith in
    (refusal_same m n e, bit_same p q j)

-- the same, of the two together
pub refusal_one : {A : Type 0} {L : Layout A} → Sound L → {s : List ℕ} {c : Cursor} → Within c (length s) → {r q : Refused}
    → Refuses L s c (refusal_number r.why) r.at → Refuses L s c (refusal_number q.why) q.at → r ≡ q
refusal_one l w x y = let (e, f) = refused_one l w x y in ap₂ (λ (m : Refusal) (p : BitPos). record { why = m; at = p }) e f

module _ {L : Layout (List ℤ)} (l : Sound L) {s : List ℕ} {c : Cursor} (w : Within c (length s)) where
  -- where a value is known by its number
  pub judged_one : {T : Type 0} {number : T → ℤ} → ((x y : T) → number x ≡ number y → x ≡ y) → {place sought : ℕ} {r q : Result (Judged T) Refused}
      → ToldJudged number L place sought s c r → ToldJudged number L place sought s c q → r ≡ q
  judged_one one {place} {sought} (Judging.whole {r = v} vs t a b) (Judging.whole {r = u} us o f g) =
      let (h, i) = taken_one l t o in
      let x : v.value ≡ u.value = one v.value u.value (a ∙ ap (λ (z : List ℤ). get_or z place (pos 0)) h ∙ sym f) in
      let y : v.below ≡ u.below = b ∙ ap (below sought) h ∙ sym g in
      λ n. Ok (record { value = x n; below = y n; after = i n })
  judged_one one (Judging.whole vs t a b) (Judging.no x) = absurd (no_taken l x t)
  judged_one one (Judging.no x) (Judging.whole vs t a b) = absurd (no_taken l x t)
  judged_one one (Judging.no x) (Judging.no y) = ap Err (refusal_one l w x y)

  -- and of what keeps a list; the own list is one where there is a list, and nobody's concern where it is refused
  module _ {n : ℕ} {old new new' : List ℤ} where
    pub kept_one : {r q : Result Cursor Refused} → ToldKept L n s c old new r → ToldKept L n s c old new' q → r ≡ q
    kept_one (Judging.whole vs t a b) (Judging.whole us o f g) = ap Ok (taken_one l t o).1
    kept_one (Judging.whole vs t a b) (Judging.no x) = absurd (no_taken l x t)
    kept_one (Judging.no x) (Judging.whole vs t a b) = absurd (no_taken l x t)
    kept_one (Judging.no x) (Judging.no y) = ap Err (refusal_one l w x y)

    pub kept_list_one : {d e : Cursor} → ToldKept L n s c old new (Ok d) → ToldKept L n s c old new' (Ok e) → new ≡ new'
    kept_list_one (Judging.whole vs t a b) (Judging.whole us o f g) = b ∙ ap (λ (z : List ℤ). z ++ drop n old) (taken_one l t o).0 ∙ sym g
