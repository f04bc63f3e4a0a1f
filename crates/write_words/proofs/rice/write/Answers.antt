use Rattle.std.proofs.Common.{◌-◌, ◌%◌, mod-lt, pow_mono, arith}
use Rattle.std.proofs.Math.Pow.{shr_le}
use Rattle.pen.specs.Laws.Pen.{drawn_as}
use Rattle.write_words.specs.Laws.Writes.{length_rice, rice_led, rice_holds}
use Rattle.write_words.proofs.rice.write.Goals as goal

pub overflow_cast-zeros-2 : goal.overflow_cast-zeros-2
overflow_cast-zeros-2 c = omega (arith, shr_le (c.args.w - 1) c.args.k)

pub overflow_add-one : goal.overflow_add-one
overflow_add-one c =
    omega (arith, mod-lt (c.args.w - 1) c.power-one.ensures.1, c.power-one.ensures.0, pow_mono {i = c.args.k} {j = 31} c.requires.2)

pub led-requires : goal.led-requires
led-requires c =
    let r = c.requires.1 in
    let one = c.power-one.result in
    (r.within, omega (arith, r.fits, length_rice c.args.k c.args.w), omega (arith, c.requires.2), rice_holds c.args.k ((c.args.w - 1) % one) one c.power-one.ensures.0 (mod-lt (c.args.w - 1) c.power-one.ensures.1))

pub returns : goal.returns
returns c =
    drawn_as (rice_led c.args.k c.args.w c.power-one.result c.power-one.ensures.0) c.led.ensures
