use Rattle.read_words.specs.Laws.Ranges.{LiveTo}
use Rattle.read_words.proofs.parts.live.Given as goal

abbrev pub invariant-loop-j : goal.invariant-loop-j
invariant-loop-j l = LiveTo l.v l.w l.n l.lo l.hi l.j
