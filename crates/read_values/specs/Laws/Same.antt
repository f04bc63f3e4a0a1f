-- Two answers that satisfy the contract of a reader of one value are equal.
use Rattle.std.specs.Prelude.{◌≡◌, Result, Ok, Err, Bool, List, ℕ, ℤ, length}
use Rattle.std.proofs.Common.{ap}
use Rattle.layout.specs.Sound.{Sound}
use Rattle.format.specs.Kinds.{Kind}
use Rattle.bits.specs.Cursor.{Within}
use Rattle.bits.specs.declared.Cursor.{Cursor}
use Rattle.reading.specs.Laws.Steps.{no_taken, taken_one}
use Rattle.reading.specs.Laws.Same.{refusal_one}
use Rattle.reading.specs.declared.Refused.{Refused}
use Rattle.read_values.specs.Told as Told
use Rattle.read_values.specs.Told.{value_by, ToldValue}

-- where a value is known by its number
module _ {T : Type 0} {number : T → ℤ} (one : (x y : T) → number x ≡ number y → x ≡ y) {image : ℕ → List Bool} {s : List ℕ} {c : Cursor} (w : Within c (length s)) where
  pub value_one : {t : Kind} {p : ℤ} → Sound (value_by image t p) → {a b : Result (T × Cursor) Refused} → ToldValue number image t p s c a → ToldValue number image t p s c b → a ≡ b
  value_one l (Told.is {v = v} k) (Told.is {v = u} j) =
      let (e, f) = taken_one l k j in
      let g : v ≡ u = one v u e in
      λ i. Ok (g i, f i)
  value_one l (Told.is k) (Told.no x) = absurd (no_taken l x k)
  value_one l (Told.no x) (Told.is k) = absurd (no_taken l x k)
  value_one l (Told.no x) (Told.no y) = ap Err (refusal_one l w x y)
