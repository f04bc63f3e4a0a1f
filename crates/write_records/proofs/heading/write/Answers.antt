use Rattle.std.proofs.Common.{◌+◌, arith}
use Rattle.layout.proofs.Laws.Bits.{length_in_bits}
use Rattle.pen.specs.Laws.Pen.{drawn_both}
use Rattle.write_records.specs.Laws.Images.{length_heading, heading_parts}
use Rattle.write_records.proofs.heading.write.Goals as goal

pub field-after_front-requires : goal.field-after_front-requires
field-after_front-requires c =
    let e = length_heading c.args.h c.args.n in
    let w = c.parameter_width-width in
    (c.requires.room.within, omega (arith, e, w.ensures.0, c.requires.room.fits), omega (arith, w.ensures.1), rw w.ensures.0 c.front.ensures.1)

pub write-requires : goal.write-requires
write-requires c =
    let w = c.parameter_width-width in
    let e = length_heading c.args.h c.args.n in
    let l = length_in_bits (6 + w.result) c.front.result in
    (omega arith, record { within = c.field-after_front.ensures.within; fits = omega (arith, e, l, w.ensures.0, c.requires.room.fits, c.field-after_front.ensures.told, c.field-after_front.auto.buf) })

pub returns : goal.returns
returns c =
    let w = c.parameter_width-width in
    let k = c.front in
    drawn_both c.requires.room.within (heading_parts c.args.h c.args.n w.result k.result w.ensures.0 k.ensures.0) c.field-after_front.ensures c.write.ensures
