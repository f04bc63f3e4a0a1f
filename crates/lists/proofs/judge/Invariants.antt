use Rattle.std.proofs.Common.{map}
use Rattle.headings.specs.Headings.{kind_of}
use Rattle.lists.specs.Laws.Judging.{Upto}
use Rattle.lists.proofs.judge.Given as goal

abbrev pub invariant-loop-i : goal.invariant-loop-i
invariant-loop-i g l = let n = g.T.Item.number in Upto (kind_of l.kind) (map n l.values) l.i (n l.before)
