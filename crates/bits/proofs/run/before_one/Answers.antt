use Rattle.std.proofs.Common.{arith}
use Rattle.bits.specs.Laws.Runs.{before_first}
use Rattle.bits.proofs.run.before_one.Goals as goal

pub overflow_cast-result : goal.overflow_cast-result
overflow_cast-result c = let f = before_first c.args.n c.args.m c.requires.0 c.requires.1 c.requires.2 in omega (arith, f.1)

pub overflow_add-result : goal.overflow_add-result
overflow_add-result c = let f = before_first c.args.n c.args.m c.requires.0 c.requires.1 c.requires.2 in omega (arith, f.1)

pub overflow_sub-result : goal.overflow_sub-result
overflow_sub-result c = let f = before_first c.args.n c.args.m c.requires.0 c.requires.1 c.requires.2 in f.0

pub returns : goal.returns
returns c = let f = before_first c.args.n c.args.m c.requires.0 c.requires.1 c.requires.2 in (f.2, f.3, f.4)
