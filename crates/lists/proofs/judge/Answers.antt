use Rattle.std.proofs.lemmas.List.{length-map}
use Rattle.lists.specs.Laws.Judging.{upto_none, upto_all, upto_range, upto_falls, upto_more, at_number}
use Rattle.lists.proofs.judge.Goals as goal

pub loop-i-init : goal.loop-i-init
loop-i-init g c = rw c.zero-before.ensures upto_none

pub returns-then-outside : goal.returns-then-outside
returns-then-outside g c =
    upto_range c.loop-i.invariant (at_number g.T.Item.number c.args.values.now c.loop-i.i _ c.loop-i-test.true c.index-values-i.is) c.if-outside.ensures

pub returns-then-falls : goal.returns-then-falls
returns-then-falls g c =
    upto_falls c.loop-i.invariant (at_number g.T.Item.number c.args.values.now c.loop-i.i _ c.loop-i-test.true c.index-values-i.is) c.if-outside.ensures c.if-falls.ensures

pub loop-i-preserved : goal.loop-i-preserved
loop-i-preserved g c =
    upto_more c.loop-i.invariant (at_number g.T.Item.number c.args.values.now c.loop-i.i _ c.loop-i-test.true c.index-values-i.is) (c.if-outside.ensures, c.if-falls.ensures)

pub returns : goal.returns
returns g c = upto_all c.loop-i.invariant (rw (length-map c.args.values.now g.T.Item.number) c.loop-i-test.false)
