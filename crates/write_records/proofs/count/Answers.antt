use Rattle.std.proofs.Common.{sym, map, length, arith}
use Rattle.std.proofs.lemmas.List.{length-map}
use Rattle.write_records.specs.Laws.Images.{length_record}
use Rattle.write_records.proofs.count.Goals as goal

pub returns : goal.returns
returns g c =
    let a = c.args in
    let n = g.T.Item.number in
    let e = length_record a.h (map n a.values.now) (length a.values.now) (sym (length-map a.values.now n)) in
    (omega (arith, e, c.count.ensures.0, c.count_body.ensures.0), omega arith)
