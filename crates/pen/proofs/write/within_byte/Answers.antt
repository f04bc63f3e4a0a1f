use Rattle.std.proofs.Common.{◌≡◌, ◌∙◌, ap, ℕ, ◌+◌, ◌-◌, ◌*◌, ◌/◌, ◌%◌, arith}
use Rattle.layout.specs.Bits.{bits_of, in_bits, put}
use Rattle.pen.specs.Laws.Bytes.{chunk_write}
use Rattle.pen.proofs.write.within_byte.Goals as goal

pub returns : goal.returns
returns c =
    let a = c.args in
    let e : a.at % 8 + (a.w + (8 - a.at % 8 - a.w)) ≡ 8 = omega arith in
    let p : 8 * (a.at / 8) + a.at % 8 ≡ a.at = omega arith in
    rw c.patch.ensures (chunk_write a.buf.now (a.at / 8) (a.at % 8) a.w (8 - a.at % 8 - a.w) a.v (omega arith) e c.requires.3 ∙ ap (λ (m : ℕ). put (bits_of a.buf.now) m (in_bits a.w a.v)) p)
