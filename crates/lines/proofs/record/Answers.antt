use Rattle.std.proofs.Common.{sym, map, arith}
use Rattle.std.proofs.lemmas.List.{length-map}
use Rattle.headings.specs.Headings.{headed}
use Rattle.lines.specs.Laws.Room.{room_upper_bound}
use Rattle.lines.specs.Laws.Stands.{record_stands}
use Rattle.lines.proofs.record.Goals as goal

pub values-requires : goal.values-requires
values-requires g c = let n = g.T.Item.number in let list = c.args.list.now in omega (arith, room_upper_bound (map n list), length-map list n)

pub returns : goal.returns
returns g c =
    let n = g.T.Item.number in
    let list = c.args.list.now in
    let h = c.heading-begun.ensures in
    let v = c.values.ensures in
    record {
      stands = record_stands (headed c.args.h (map n list)) (sym (length-map list n)) h.stands v.stands (omega (arith, h.upper_bound, c.requires.0));
      upper_bound = omega (arith, h.upper_bound, v.upper_bound, c.requires.1, room_upper_bound (map n list), length-map list n);
    }
