use Rattle.std.proofs.Common.{◌-◌}
use Rattle.read_words.specs.Laws.VariableByte.{Reached}
use Rattle.read_words.proofs.variable_byte.read.Given as goal

abbrev pub invariant-loop-v : goal.invariant-loop-v
invariant-loop-v l = Reached l.s l.initial.d l.acc l.d

-- acc grows, and stays below 2 ^ 32 / 128
abbrev pub decreases-loop-v : goal.decreases-loop-v
decreases-loop-v l = 33554432 - l.acc
