use Rattle.std.proofs.Common.{arith}
use Rattle.show.specs.Laws.Steps.{begun_stream}
use Rattle.show.proofs.show.Goals as goal

pub print-requires-clause-goes_on : goal.print-requires-clause-goes_on
print-requires-clause-goes_on g c = (begun_stream c.in-Ok.ensures, omega arith)
