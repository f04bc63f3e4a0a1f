use Rattle.std.proofs.Common.{sym, ◌-◌, length, arith}
use Rattle.pen.specs.Laws.Pen.{drawn_none, drawn_both}
use Rattle.write_interpolative.specs.Laws.Body.{body_none, body_length}
use Rattle.write_interpolative.proofs.write.Goals as goal

pub returns-then-n-eq0 : goal.returns-then-n-eq0
returns-then-n-eq0 c =
    let a = c.args in
    let e = body_none a.values.now c.if-n-eq0.true in
    drawn_none a.buf.now a.pen e c.requires.room.within

pub write-after_last-requires : goal.write-after_last-requires
write-after_last-requires c =
    let l = c.last-last in
    (omega arith, record { within = c.requires.room.within; fits = omega (arith, c.requires.room.fits, body_length c.args.values.now (length c.args.values.now - 1) l.result l.ensures.0) })

pub write_part-requires : goal.write_part-requires
write_part-requires c =
    let l = c.last-last in
    let e = body_length c.args.values.now (length c.args.values.now - 1) l.result l.ensures.0 in record { ready = l.ensures.0.ready; room = (omega arith, omega arith, omega arith, omega arith, omega arith); space = record { within = c.write-after_last.ensures.within; fits = omega (arith, c.requires.room.fits, e, c.write-after_last.ensures.told, c.write-after_last.auto.buf) } }

pub returns : goal.returns
returns c =
    drawn_both c.requires.room.within (sym c.last-last.ensures.0.whole) c.write-after_last.ensures c.write_part.ensures
