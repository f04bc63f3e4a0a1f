use Rattle.std.proofs.Common.{arith}
use Rattle.read_middles.specs.Laws.Next.{lies}
use Rattle.read_middles.specs.Laws.Offset.{offset_cut, offset_bad, offset_taken}
use Rattle.read_middles.proofs.read_middle.Goals as goal

pub returns-then-too_few-clause-told_middle : goal.returns-then-too_few-clause-told_middle
returns-then-too_few-clause-told_middle c = offset_cut _ _ _ (lies _ _ _ c.requires.place) c.length-own.ensures.0 (omega arith)

pub returns-then-too_large-clause-told_middle : goal.returns-then-too_large-clause-told_middle
returns-then-too_large-clause-told_middle c =
    offset_bad _ _ _ (lies _ _ _ c.requires.place) c.length-own.ensures.0 _ (omega (arith, c.if-too_few.false)) c.number-offset.ensures (omega arith)

pub returns-clause-told_middle : goal.returns-clause-told_middle
returns-clause-told_middle c =
    offset_taken _ _ _ (lies _ _ _ c.requires.place) c.length-own.ensures.0 _ (omega (arith, c.if-too_few.false)) c.number-offset.ensures (omega (arith, c.if-too_large.false))
