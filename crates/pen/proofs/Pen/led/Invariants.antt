use Rattle.std.proofs.Common.{◌≡◌, ◌++◌, ◌≤◌, length}
use Rattle.layout.specs.Bits.{in_bits, zeros}
use Rattle.pen.specs.Pen.{Begun}
use Rattle.pen.proofs.Pen.led.Given as goal

abbrev pub invariant-loop-left : goal.invariant-loop-left
invariant-loop-left l = (l.left ≤ l.initial.left) × (length l.buf ≡ length l.initial.buf) × Begun (zeros l.initial.left ++ in_bits l.width l.value) (zeros l.left ++ in_bits l.width l.value) l.initial.buf l.initial.pen l.buf l.pen

abbrev pub decreases-loop-left : goal.decreases-loop-left
decreases-loop-left l = l.left
