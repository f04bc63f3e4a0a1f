use Rattle.std.proofs.Common.{◌≡◌, ◌-◌, ◌≤◌, take, drop}
use Rattle.layout.specs.Bits.{bits_of}
use Rattle.layout.specs.Laws.Bits.{val}
use Rattle.bits.proofs.number.by_bytes.Given as goal

abbrev pub invariant-loop-done : goal.invariant-loop-done
invariant-loop-done l = (l.done ≤ l.width) × (l.n ≡ val (take l.done (drop l.at (bits_of l.s))))

abbrev pub decreases-loop-done : goal.decreases-loop-done
decreases-loop-done l = l.width - l.done
