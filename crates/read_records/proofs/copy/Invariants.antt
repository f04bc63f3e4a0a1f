use Rattle.std.proofs.Common.{◌≡◌, ◌++◌, take, drop}
use Rattle.read_records.proofs.copy.Given as goal

abbrev pub invariant-loop-i : goal.invariant-loop-i
invariant-loop-i g l = l.list ≡ take l.i l.own ++ drop l.i l.initial.list
