use Rattle.std.proofs.Common.{◌∙◌, ap, length, nat_abs, to_z-of_z, arith}
use Rattle.lines.specs.Laws.Stands.{number_stands}
use Rattle.lines.proofs.numbers.number.Goals as goal

pub returns-clause-stands : goal.returns-clause-stands
returns-clause-stands c =
    let value = to_z-of_z c.ranges.v in
    let s = rw value at c.sign-after_sign.ensures in
    let size = c.unsigned_abs.ensures.value ∙ ap nat_abs value in
    let d = c.decimal-end.ensures in
    let place = ap length s.is in
    number_stands s (rw size at d.stands) c.separator.ensures (omega (arith, s.after, place, c.requires.0)) (omega (arith, s.after, place, d.upper_bound, c.requires.0)) (omega (arith, s.after, place, d.upper_bound, c.requires.0))
