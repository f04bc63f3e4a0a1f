use Rattle.std.proofs.Common.{refl, ◌∙◌, ◌+◌, ◌≤◌, lt_of_lt_of_le, pow_pos, pow_mono, arith}
use Rattle.layout.specs.Bits.{in_bits}
use Rattle.layout.proofs.Laws.Windows.{zeros_lead}
use Rattle.pen.specs.Laws.Pen.{drawn_as, drawn_both, begun_none, begun_told, begun_more, length_led, fewer_zeros}
use Rattle.pen.proofs.Pen.led.Goals as goal

pub loop-left-init : goal.loop-left-init
loop-left-init c = (omega arith, refl, begun_none c.requires.0)

pub field-pen-requires : goal.field-pen-requires
field-pen-requires c =
    let l = c.loop-left in
    let v = c.args.value in
    let w = c.args.width in
    let b = begun_told c.requires.0 l.invariant.2 in
    (l.invariant.2.drawn.within, omega (arith, b, l.invariant.1, c.requires.1, length_led l.left w v, length_led c.args.count w v), omega arith, pow_pos c.min-w.result)

pub loop-left-preserved : goal.loop-left-preserved
loop-left-preserved c =
    let i = c.loop-left.invariant in
    (omega arith, c.field-pen.auto.buf ∙ i.1, begun_more c.requires.0 i.2 (fewer_zeros c.loop-left.left c.min-w.result (in_bits c.args.width c.args.value) (omega arith)) c.field-pen.ensures)

pub field-requires : goal.field-requires
field-requires c =
    let l = c.loop-left in
    let v = c.args.value in
    let w = c.args.width in
    let b = begun_told c.requires.0 l.invariant.2 in
    let wider : w ≤ l.left + w = omega arith in
    (l.invariant.2.drawn.within, omega (arith, b, l.invariant.1, c.requires.1, length_led l.left w v, length_led c.args.count w v), omega arith, lt_of_lt_of_le c.requires.3 (pow_mono wider))

pub returns : goal.returns
returns c =
    let i = c.loop-left.invariant.2 in
    drawn_both c.requires.0 i.parts i.drawn (drawn_as (zeros_lead c.loop-left.left c.args.width c.requires.3) c.field.ensures)
