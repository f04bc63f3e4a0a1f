use Rattle.std.proofs.Common.{arith}
use Rattle.show.specs.Laws.Steps.{gathered, one_more, at_end}
use Rattle.show.proofs.records.step.Goals as goal

pub returns-in-Ok-Record : goal.returns-in-Ok-Record
returns-in-Ok-Record c = one_more (rw c.in-Ok-Record.field-0-is at c.in-Ok-Record.ensures) c.record_line-bytes.ensures

pub returns-in-Ok-End : goal.returns-in-Ok-End
returns-in-Ok-End c = at_end (rw c.in-Ok-End.field-0-is at c.in-Ok-End.ensures) (gathered c.end.ensures.stands (omega arith))
