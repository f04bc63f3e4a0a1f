use Rattle.std.proofs.Common.{sym, map, length, arith}
use Rattle.std.proofs.lemmas.List.{length-map}
use Rattle.write_records.specs.Laws.Images.{length_record, record_written}
use Rattle.write_records.proofs.write.Goals as goal

pub write-after_heading-requires-clause-room : goal.write-after_heading-requires-clause-room
write-after_heading-requires-clause-room g c =
    let a = c.args in
    let n = g.T.Item.number in
    let e = length_record a.h (map n a.values.now) (length a.values.now) (sym (length-map a.values.now n)) in
    let p = c.open-pen.ensures in
    record { within = p.within; fits = omega (arith, e, p.told, c.requires.room.0) }

pub write_body-after_body-requires-clause-room : goal.write_body-after_body-requires-clause-room
write_body-after_body-requires-clause-room g c =
    let a = c.args in
    let n = g.T.Item.number in
    let e = length_record a.h (map n a.values.now) (length a.values.now) (sym (length-map a.values.now n)) in
    let d = c.write-after_heading.ensures in
    record { within = d.within; fits = omega (arith, e, d.told, c.write-after_heading.auto.buf, c.open-pen.ensures.told, c.requires.room.0) }

pub returns : goal.returns
returns g c =
    let a = c.args in
    let n = g.T.Item.number in
    record_written a.h (map n a.values.now) (length a.values.now) (sym (length-map a.values.now n)) c.open-pen.ensures c.write-after_heading.ensures c.write_body-after_body.ensures c.close.ensures.0 c.close.ensures.1
