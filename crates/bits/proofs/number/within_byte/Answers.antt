use Rattle.std.proofs.Common.{◌≡◌, ◌∙◌, sym, ap, ℕ, ◌+◌, ◌-◌, ◌*◌, ◌/◌, ◌%◌, ◌^◌, take, drop, get_or, arith}
use Rattle.layout.specs.Bits.{bits_of}
use Rattle.layout.specs.Laws.Bits.{val}
use Rattle.layout.proofs.Laws.Bits as laws
use Rattle.bits.specs.Laws.Bytes.{chunk_read}
use Rattle.bits.proofs.number.within_byte.Goals as goal

pub returns : goal.returns
returns c =
    let a = c.args in
    let k = 8 - a.at % 8 - a.w in
    let e : a.at % 8 + (a.w + k) ≡ 8 = omega arith in
    let p : 8 * (a.at / 8) + a.at % 8 ≡ a.at = omega arith in
    c.part.ensures.0
    ∙ ap (λ (m : ℕ). m / 2 ^ k % 2 ^ a.w) c.from.ensures
    ∙ sym (laws.val_in_bits a.w (get_or a.s.now (a.at / 8) 0 / 2 ^ k))
    ∙ ap val (sym (chunk_read a.s.now (a.at / 8) (a.at % 8) a.w k (omega arith) e))
    ∙ ap (λ (m : ℕ). val (take a.w (drop m (bits_of a.s.now)))) p
