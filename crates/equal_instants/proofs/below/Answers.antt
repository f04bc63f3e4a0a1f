use Rattle.std.proofs.Common.{arith}
use Rattle.equal_instants.specs.Laws.Sums.{equal_below, equal_above}
use Rattle.equal_instants.proofs.below.Goals as goal

pub returns-then-t-sought : goal.returns-then-t-sought
returns-then-t-sought c = let a = c.args in (λ start. equal_below a.sought start a.n a.t (omega arith), omega arith)

pub returns : goal.returns
returns c = let a = c.args in (λ start. equal_above a.sought start a.n a.t (omega arith), omega arith)
