use Rattle.std.proofs.Common.{arith}
use Rattle.bits.specs.Laws.Length.{size_pos}
use Rattle.pen.specs.Laws.Pen.{drawn_as}
use Rattle.write_words.specs.Laws.Writes.{length_gamma, gamma_led, size_holds}
use Rattle.write_words.proofs.gamma.write.Goals as goal

pub overflow_sub-digits : goal.overflow_sub-digits
overflow_sub-digits c =
    omega (arith, size_pos c.args.w c.requires.0)

pub led-requires : goal.led-requires
led-requires c =
    let l = c.length-digits in
    let p = c.requires.1 in
    (p.within, omega (arith, p.fits, length_gamma c.args.w, l.ensures.0), l.ensures.1, size_holds l.result c.args.w l.ensures.0 c.requires.0)

pub returns : goal.returns
returns c =
    let n = c.length-digits in
    drawn_as (gamma_led n.result c.args.w n.ensures.0) c.led.ensures
