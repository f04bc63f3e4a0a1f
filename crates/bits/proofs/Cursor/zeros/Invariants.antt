use Rattle.std.proofs.Common.{◌-◌, ◌≤◌}
use Rattle.layout.specs.Bits.{window}
use Rattle.bits.specs.Laws.Runs.{AllZeros}
use Rattle.bits.proofs.Cursor.zeros.Given as goal

abbrev pub invariant-loop-z : goal.invariant-loop-z
invariant-loop-z l = (l.z ≤ l.stop - l.at) × AllZeros (window l.s l.at l.stop) l.z

abbrev pub decreases-loop-z : goal.decreases-loop-z
decreases-loop-z l = l.stop - l.at - l.z
