use Rattle.std.proofs.Common.{arith}
use Rattle.std.proofs.lemmas.List.{length-map}
use Rattle.lists.specs.Laws.Judging.{at_number}
use Rattle.write_lists.specs.Laws.Images.{midway_none, midway_fits, midway_room, midway_more, midway_all}
use Rattle.write_lists.proofs.write.Goals as goal

pub loop-i-init : goal.loop-i-init
loop-i-init g c = rw c.zero-before.ensures (midway_none _ _ _ c.requires.room c.requires.list)

pub word-requires : goal.word-requires
word-requires g c =
    let v = at_number g.T.Item.number c.args.values.now c.loop-i.i _ (omega arith) c.index-values-i.is in
    (c.requires.family, midway_fits _ _ _ c.requires.room c.loop-i.invariant v)

pub write-next-requires : goal.write-next-requires
write-next-requires g c =
    let v = at_number g.T.Item.number c.args.values.now c.loop-i.i _ (omega arith) c.index-values-i.is in
    let w = c.word.ensures in
    (w.1, midway_room _ _ _ c.requires.room c.loop-i.invariant v w.0 c.loop-i.auto.buf)

pub loop-i-preserved : goal.loop-i-preserved
loop-i-preserved g c =
    let v = at_number g.T.Item.number c.args.values.now c.loop-i.i _ (omega arith) c.index-values-i.is in
    midway_more _ _ _ c.requires.room c.loop-i.invariant v c.word.ensures.0 c.write-next.ensures

pub returns : goal.returns
returns g c = midway_all _ _ _ c.requires.room c.loop-i.invariant (rw (length-map c.args.values.now g.T.Item.number) (omega arith))
