use Rattle.std.proofs.Common.{ap, ap₂, ◌∙◌, List, ℕ, ◌+◌, ◌-◌, ◌*◌, arith}
use Rattle.layout.specs.Bits.{bits_of, put}
use Rattle.pen.specs.Laws.Bytes.{bytes_write, four_bytes}
use Rattle.pen.proofs.draw.store.Goals as goal

pub returns : goal.returns
returns c =
    let s = c.args.buf.now in
    let q = c.byte-q.result in
    let k : ℕ = q + 4 - q in
    bytes_write s c.copy_from_slice.new.self q k (omega arith) (omega arith)
    ∙ ap₂ (λ (n : ℕ) (l : List ℕ). put (bits_of s) (8 * n) (bits_of l)) c.byte-q.ensures (c.copy_from_slice.ensures.after ∙ c.to_be_bytes.ensures)
    ∙ ap (put (bits_of s) (8 * c.args.first.0)) (four_bytes c.args.bits)
