use Rattle.show.specs.Laws.Steps.{onward}
use Rattle.show.proofs.print.Goals as goal

pub loop-next-smaller : goal.loop-next-smaller
loop-next-smaller g c = rw c.in-Some.is ((onward c.step-line.ensures).1)

pub loop-next-preserved : goal.loop-next-preserved
loop-next-preserved g c = (onward c.step-line.ensures).0
