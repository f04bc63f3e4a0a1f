-- The answer of the stream check is known by the numbers that it stands for, and two that satisfy its contract are equal.
use Rattle.std.specs.Prelude.{◌≡◌, Result, Ok, Err, Bool, List, ℕ}
use Rattle.std.proofs.Common.{ap, arith}
use Rattle.format.specs.Reading.{Check}
use Rattle.format.proofs.Laws.Reading.{check_one}
use Rattle.bits.specs.declared.BitPos.{BitPos}
use Rattle.reading.specs.Laws.Refusals.{refused_same}
use Rattle.reading.specs.declared.Refusal.{Refusal}
use Rattle.reading.specs.declared.Refused.{Refused}
use Rattle.read_streams.specs.Told.{checked}
use Rattle.read_streams.specs.declared.Checked.{Checked}

pub checked_same : (a b : Result Checked Refused) → checked a ≡ checked b → a ≡ b
checked_same (Ok i) (Ok j) e =
    let f : ◌≡◌ {A = ℕ × ℕ} (i.records, i.values) (j.records, j.values) = cc in
    ap (λ (x : ℕ × ℕ). Ok (record { records = x.0; values = x.1 })) f
checked_same (Ok i) (Err q) e = let z : ◌≡◌ {A = ℕ} 0 1 = cc in absurd (omega arith)
checked_same (Err p) (Ok j) e = let z : ◌≡◌ {A = ℕ} 0 1 = cc in absurd (omega arith)
checked_same (Err p) (Err q) e = refused_same (λ (m : Refusal) (b : BitPos). Err (record { why = m; at = b })) p.why q.why p.at q.at e

pub check_same : {stop : ℕ} {w : List Bool} (a b : Result Checked Refused) → Check stop (checked a) w 0 0 → Check stop (checked b) w 0 0 → a ≡ b
check_same a b x y = checked_same a b (check_one x y)
