use Rattle.std.proofs.Common.{sym, replicate, arith}
use Rattle.equal_instants.specs.Laws.Sums.{value_before, equal_here, equal_after}
use Rattle.equal_instants.proofs.value_at.Goals as goal

pub returns-then-place-start : goal.returns-then-place-start
returns-then-place-start c = let a = c.args in (sym (value_before a.place a.start (replicate a.n a.t) (omega arith)), omega arith)

pub returns-then-place-start-2 : goal.returns-then-place-start-2
returns-then-place-start-2 c = let a = c.args in (equal_here a.place a.start a.n a.t (omega arith) (omega arith), omega arith)

pub returns : goal.returns
returns c = let a = c.args in (equal_after a.place a.start a.n a.t (omega arith) (omega arith), omega arith)
