use Rattle.std.proofs.Common.{◌≡◌, ◌-◌, ◌/◌, ◌^◌, ◌≤◌, length}
use Rattle.layout.specs.Bits.{bits_of, in_bits, put}
use Rattle.pen.proofs.write.field.Given as goal

abbrev pub invariant-loop-done : goal.invariant-loop-done
invariant-loop-done l = (l.done ≤ l.width) × (length l.buf ≡ length l.initial.buf) × (bits_of l.buf ≡ put (bits_of l.initial.buf) l.at (in_bits l.done (l.value / 2 ^ (l.width - l.done))))

abbrev pub decreases-loop-done : goal.decreases-loop-done
decreases-loop-done l = l.width - l.done
