use Rattle.std.proofs.Common.{arith}
use Rattle.std.proofs.lemmas.List.{length-map}
use Rattle.lists.specs.Laws.Judging.{at_number}
use Rattle.write_lists.specs.Laws.Images.{counted_none, counted_fits, counted_more, counted_all}
use Rattle.write_lists.proofs.count.Goals as goal

pub loop-v-init : goal.loop-v-init
loop-v-init g c = (rw c.zero-before.ensures (counted_none _ _ _ c.requires.list.0), omega arith)

pub word-requires : goal.word-requires
word-requires g c =
    let v = at_number g.T.Item.number c.args.values.now c.loop-v.v-index _ c.loop-v-test.true c.v-item.is in
    (c.requires.family, counted_fits _ _ _ c.loop-v.invariant.0 v)

pub loop-v-preserved : goal.loop-v-preserved
loop-v-preserved g c =
    let v = at_number g.T.Item.number c.args.values.now c.loop-v.v-index _ c.loop-v-test.true c.v-item.is in
    (counted_more _ _ _ c.loop-v.invariant.0 _ v c.word.ensures.0 c.count-total.ensures.0, omega arith)

pub returns : goal.returns
returns g c = (counted_all _ _ _ c.loop-v.invariant.0 (rw (length-map c.args.values.now g.T.Item.number) c.loop-v-test.false), omega arith)
