use Rattle.std.proofs.Common.{◌≡◌, ap, ◌∙◌, ℕ, suc, ◌-◌, arith}
use Rattle.format.specs.Codes.{groups, variable_byte}
use Rattle.pen.specs.Laws.Pen.{drawn_as, begun_none, begun_told, begun_more, begun_all}
use Rattle.write_words.specs.Laws.Writes.{length_groups, length_variable_byte, unit_first}
use Rattle.write_words.proofs.variable_byte.write.Goals as goal

pub loop-later-init : goal.loop-later-init
loop-later-init c = begun_none c.requires.1.within

pub field-next-requires : goal.field-next-requires
field-next-requires c =
    let i = c.loop-later.invariant in
    let b = begun_told c.requires.1.within i in
    let g = c.groups-later in
    let w = c.args.w in
    (i.drawn.within, omega (arith, b, c.loop-later.auto.buf, c.requires.1.fits, length_groups c.loop-later.later w, length_groups g.result w, length_variable_byte w, g.ensures.0), omega arith, c.unit.ensures.1)

pub loop-later-preserved : goal.loop-later-preserved
loop-later-preserved c =
    let e : c.loop-later.later ≡ suc (c.loop-later.later - 1) = omega arith in
    begun_more c.requires.1.within c.loop-later.invariant (ap (λ (n : ℕ). groups n c.args.w) e ∙ unit_first (c.loop-later.later - 1) c.args.w c.unit.result c.unit.ensures.0) c.field-next.ensures

pub returns : goal.returns
unfolding variable_byte groups
returns c =
    let z : c.loop-later.later ≡ 0 = omega arith in
    drawn_as (ap (λ (n : ℕ). groups n c.args.w) c.groups-later.ensures.0) (begun_all c.requires.1.within c.loop-later.invariant (ap (λ (n : ℕ). groups n c.args.w) z))
