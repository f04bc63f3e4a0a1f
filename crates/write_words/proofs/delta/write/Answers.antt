use Rattle.std.proofs.Common.{◌+◌, ◌-◌, arith}
use Rattle.layout.proofs.Laws.Bits.{length_in_bits}
use Rattle.bits.specs.Laws.Length.{size_pos, size_small}
use Rattle.pen.specs.Laws.Pen.{drawn_as, drawn_both}
use Rattle.write_words.specs.Laws.Writes.{length_gamma, length_delta, gamma_field, gamma_holds, size_word, size_holds, delta_parts}
use Rattle.write_words.proofs.delta.write.Goals as goal

pub overflow_sub-size : goal.overflow_sub-size
overflow_sub-size c =
    let n = c.length-digits in
    omega (arith, size_pos n.result (size_word n.result c.args.w n.ensures.0 c.requires.0))

pub field-after_length-requires : goal.field-after_length-requires
field-after_length-requires c =
    let n = c.length-digits in
    let m = c.length-size in
    let word = size_word n.result c.args.w n.ensures.0 c.requires.0 in
    let p = c.requires.1 in
    (p.within, omega (arith, p.fits, length_delta c.args.w n.result n.ensures.0, length_gamma n.result, m.ensures.0), omega (arith, m.ensures.0, size_small n.result n.ensures.1), gamma_holds m.result n.result m.ensures.0 word)

-- that the field is w itself is shown where the bits are, at the return
pub field-requires : goal.field-requires
field-requires c =
    let m = c.length-size in
    let n = c.length-digits in
    let d = c.field-after_length.ensures in
    let l = length_in_bits (m.result - 1 + m.result) n.result in
    (d.within, omega (arith, c.requires.1.fits, length_delta c.args.w n.result n.ensures.0, length_gamma n.result, m.ensures.0, d.told, l, c.field-after_length.auto.buf), n.ensures.1, omega (arith, size_holds n.result c.args.w n.ensures.0 c.requires.0))

pub returns : goal.returns
returns c =
    let m = c.length-size in
    let n = c.length-digits in
    let word = size_word n.result c.args.w n.ensures.0 c.requires.0 in
    drawn_both c.requires.1.within (delta_parts n.result c.args.w n.ensures.0) (drawn_as (gamma_field m.result n.result m.ensures.0 word) c.field-after_length.ensures) c.field.ensures
