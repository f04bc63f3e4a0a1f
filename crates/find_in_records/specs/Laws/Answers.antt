-- An answer of look-up or search is known by the number and the value of document 01 that it stands for.
use Rattle.std.specs.Prelude.{◌≡◌, Result, Ok, Err, ℕ, ℤ}
use Rattle.std.proofs.Common.{ap, arith}
use Rattle.bits.specs.declared.BitPos.{BitPos}
use Rattle.lists.specs.Laws.Numbers.{pos_one}
use Rattle.reading.specs.Laws.Refusals.{refused_same}
use Rattle.reading.specs.declared.Refusal.{Refusal}
use Rattle.reading.specs.declared.Refused.{Refused}
use Rattle.find_in_records.specs.Told.{value_told, looked_up, looked_up_correction, searched}

-- where a value is known by its number
value_same : {T : Type 0} {number : T → ℤ} → ((x y : T) → number x ≡ number y → x ≡ y) → (a b : Result T Refused) → value_told number a ≡ value_told number b → a ≡ b
value_same one (Ok v) (Ok u) e = ap Ok (one v u (cc))
value_same one (Ok v) (Err q) e = let z : ◌≡◌ {A = ℕ} 0 1 = cc in absurd (omega arith)
value_same one (Err p) (Ok u) e = let z : ◌≡◌ {A = ℕ} 0 1 = cc in absurd (omega arith)
value_same one (Err p) (Err q) e = refused_same (λ (m : Refusal) (b : BitPos). Err (record { why = m; at = b })) p.why q.why p.at q.at e

pub looked_up_same : (a b : Result ℕ Refused) → looked_up a ≡ looked_up b → a ≡ b
looked_up_same = value_same pos_one

pub correction_same : (a b : Result ℤ Refused) → looked_up_correction a ≡ looked_up_correction b → a ≡ b
correction_same = value_same (λ x y e. e)

pub searched_same : (a b : Result ℕ Refused) → searched a ≡ searched b → a ≡ b
searched_same (Ok v) (Ok u) e = let f : v ≡ u = cc in ap Ok f
searched_same (Ok v) (Err q) e = let z : ◌≡◌ {A = ℕ} 0 1 = cc in absurd (omega arith)
searched_same (Err p) (Ok u) e = let z : ◌≡◌ {A = ℕ} 0 1 = cc in absurd (omega arith)
searched_same (Err p) (Err q) e = refused_same (λ (m : Refusal) (b : BitPos). Err (record { why = m; at = b })) p.why q.why p.at q.at e
