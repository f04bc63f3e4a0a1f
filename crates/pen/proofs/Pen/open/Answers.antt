use Rattle.std.proofs.Common.{ap, ◌∙◌, ℕ, ◌%◌, take, drop}
use Rattle.layout.specs.Bits.{bits_of}
use Rattle.layout.specs.Laws.Bits.{val}
use Rattle.pen.specs.Pen.{first_of}
use Rattle.pen.specs.Laws.Pen.{opened}
use Rattle.pen.proofs.Pen.open.Goals as goal

pub returns : goal.returns
returns c =
    let a = c.args in
    opened a.buf.now a.at c.from.result c.requires.0 c.requires.1 (c.from.ensures ∙ c.number.ensures ∙ ap (λ (n : ℕ). val (take (n % 32) (drop (first_of n) (bits_of a.buf.now)))) c.bit-bit.ensures)
