-- Two outcomes that satisfy the contract of what writes a record are equal.
use Rattle.std.specs.Prelude.{◌≡◌, refl, Option, Some, None, Bool, List, ℕ}
use Rattle.std.proofs.Common.{sym, ap, ◌∙◌}
use Rattle.layout.specs.Bits.{Bytes}
use Rattle.format.specs.Writing.{Puts}
use Rattle.format.proofs.Laws.Writing.{puts_one}
use Rattle.pen.specs.Laws.Pen.{bits_one}
use Rattle.bits.specs.Laws.Same.{bit_same}
use Rattle.bits.specs.declared.BitPos.{BitPos}
use Rattle.write_records.specs.Put.{put_outcome}
use Rattle.write_records.specs.Written.{Written}

pub written_one : {new : List Bool} {before after after' : List ℕ} {at next next' : BitPos} → Bytes after → Bytes after'
    → Written new before at after next → Written new before at after' next' → (after ≡ after') × (next ≡ next')
written_one {next = next} {next' = next'} h k x y = (bits_one h k x.bits y.bits, bit_same next next' (x.told ∙ sym y.told))

-- an answer is known by its number and what it tells
put_same : (a b : Option BitPos) → put_outcome a ≡ put_outcome b → a ≡ b
put_same (Some p) (Some q) e = let f : p.0 ≡ q.0 = cc in ap Some (bit_same p q f)
put_same (Some p) None e = cc
put_same None (Some q) e = cc
put_same None None e = refl

pub put_one : {bytes : List ℕ} {start : ℕ} {image : List Bool} {a b : Option BitPos} {after after' : List ℕ} → Puts bytes start image (put_outcome a) after → Puts bytes start image (put_outcome b) after'
    → (a ≡ b) × (after ≡ after')
put_one {a = a} {b = b} x y = let (e, f) = puts_one x y in (put_same a b e, f)
