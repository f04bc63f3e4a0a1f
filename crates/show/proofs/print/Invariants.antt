use Rattle.show.specs.Laws.Steps.{Onward, bits_left}
use Rattle.show.proofs.print.Given as goal

abbrev pub invariant-loop-next : goal.invariant-loop-next
invariant-loop-next g l =
    Onward l.s l.next

abbrev pub decreases-loop-next : goal.decreases-loop-next
decreases-loop-next g l = bits_left l.s l.next
