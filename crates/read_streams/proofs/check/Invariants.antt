use Rattle.std.proofs.Common.{◌-◌}
use Rattle.read_streams.specs.Streams.{Passing}
use Rattle.read_streams.proofs.check.Given as goal

abbrev pub invariant-loop-h : goal.invariant-loop-h
invariant-loop-h l = Passing l.s l.initial.c l.c l.records l.values

abbrev pub decreases-loop-h : goal.decreases-loop-h
decreases-loop-h l = l.c.stop.0 - l.c.at.0
