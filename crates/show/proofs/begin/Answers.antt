use Rattle.std.proofs.Common.{arith}
use Rattle.show.specs.Steps as Steps
use Rattle.show.specs.Laws.Steps.{refused_as, refused_inside}
use Rattle.show.proofs.begin.Goals as goal

pub overflow_cast-bit : goal.overflow_cast-bit
overflow_cast-bit c = omega (arith, refused_inside c.in-Err.ensures)

pub returns-in-Ok : goal.returns-in-Ok
returns-in-Ok c = Steps.checked _ c.in-Ok.ensures

pub returns-in-Err : goal.returns-in-Err
returns-in-Err c = refused_as c.in-Err.ensures c.from-answer.ensures c.bit-bit.ensures c.refusal.ensures.stands (omega arith)
