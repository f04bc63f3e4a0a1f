use Rattle.std.proofs.Common.{map}
use Rattle.lines.specs.Laws.Stands.{Upto}
use Rattle.lines.proofs.values.Given as goal

abbrev pub invariant-loop-i : goal.invariant-loop-i
invariant-loop-i g l = Upto (map g.T.Item.number l.list) l.after l.i l.initial.out l.begun l.out l.at
