use Rattle.std.proofs.Common.{◌≡◌, ap, ◌∙◌, [], arith, ℕ, ◌+◌, ◌-◌, ◌/◌}
use Rattle.layout.proofs.Laws.Bits.{length_in_bits}
use Rattle.pen.specs.Laws.Pen.{drawn_none}
use Rattle.write_interpolative.specs.Parts.{image}
use Rattle.write_interpolative.specs.Laws.Parts.{image_none, halves_length, halves_drawn}
use Rattle.write_interpolative.proofs.+write_part.Goals as goal

pub returns-then-n-eq0 : goal.returns-then-n-eq0
returns-then-n-eq0 t c =
    let a = c.args in
    let e : image a.values.now a.start a.n a.low a.hi ≡ [] = ap (λ (n : ℕ). image a.values.now a.start n a.low a.hi) c.if-n-eq0.true ∙ image_none a.values.now a.start a.low a.hi in
    drawn_none a.buf.now a.pen e c.requires.space.within

pub field-after_middle-requires : goal.field-after_middle-requires
field-after_middle-requires t c =
    let a = c.args in
    let e = halves_length a.values.now a.start a.n a.low a.hi c.middle-s.result c.middle-s.ensures.0 in
    let w = c.width-own.ensures in
    let r = c.requires.space in
    (r.within, omega (arith, r.fits, e, w.0), w.1, rw w.0 c.middle-s.ensures.0.held)

-- here and below `search h` finds whichever half is meant: that they come in this order is shown where the bits are, at the return
pub write_part-after_left-requires : goal.write_part-after_left-requires
write_part-after_left-requires t c =
    let a = c.args in
    let h = c.middle-s.ensures.0 in
    let e = halves_length a.values.now a.start a.n a.low a.hi c.middle-s.result h in (
      omega (arith, c.decreases),
      (
        search h,
        (
          (omega arith, omega arith, omega arith, omega arith, omega arith),
          record { within = c.field-after_middle.ensures.within; fits = omega (arith, c.requires.space.fits, e, c.width-own.ensures.0, c.field-after_middle.auto.buf, c.field-after_middle.ensures.told, length_in_bits c.width-own.result (c.middle-s.result - (a.low + (a.n - 1) / 2))) },
        ),
      ),
    )

pub write_part-requires : goal.write_part-requires
write_part-requires t c =
    let a = c.args in
    let h = c.middle-s.ensures.0 in
    let e = halves_length a.values.now a.start a.n a.low a.hi c.middle-s.result h in (
      omega (arith, c.decreases),
      (
        search h,
        (
          (omega arith, omega arith, omega arith, omega arith, omega arith),
          record { within = c.write_part-after_left.ensures.within; fits = omega (arith, c.requires.space.fits, e, c.width-own.ensures.0, c.field-after_middle.auto.buf, c.write_part-after_left.auto.buf, c.write_part-after_left.ensures.told, c.field-after_middle.ensures.told, length_in_bits c.width-own.result (c.middle-s.result - (a.low + (a.n - 1) / 2))) },
        ),
      ),
    )

pub returns : goal.returns
returns t c =
    let a = c.args in
    let w = c.width-own in
    let h = c.middle-s.ensures.0 in
    halves_drawn a.values.now a.start a.n a.low a.hi c.middle-s.result h w.result c.requires.space.within w.ensures.0 c.field-after_middle.ensures c.write_part-after_left.ensures c.write_part.ensures
