use Rattle.std.proofs.Common.{refl, ap, ◌∙◌, ℕ, ◌%◌, pow_mono, arith}
use Rattle.layout.specs.Bits.{in_bits, bits_of, put}
use Rattle.pen.specs.Pen.{first_of, inked}
use Rattle.pen.proofs.Pen.close.Goals as goal

pub overflow_cast-self : goal.overflow_cast-self
overflow_cast-self c =
    omega (arith, c.requires.held, pow_mono {i = c.args.self.at.0 % 32} {j = 32} (omega arith))

pub returns : goal.returns
unfolding inked
returns c =
    let a = c.args in
    (c.field.ensures ∙ ap (λ (n : ℕ). put (bits_of a.buf.now) (first_of n) (in_bits (n % 32) a.self.gathered)) c.bit-at.ensures, refl)
