use Rattle.std.proofs.Common.{arith}
use Rattle.read_counts.specs.Laws.Counts.{count_many, count_above, count_is, count_no_word}
use Rattle.read_counts.proofs.read.Goals as goal

pub returns-then-too_many : goal.returns-then-too_many
returns-then-too_many c = rw c.at-then-too_many.ensures (count_many c.in-Ok.ensures _ c.requires (omega arith))

pub returns-then-no_room : goal.returns-then-no_room
returns-then-no_room c = rw c.at-then-no_room.ensures (count_above c.in-Ok.ensures _ c.requires (omega arith) (omega arith))

pub returns : goal.returns
returns c = count_is c.in-Ok.ensures _ (omega arith) (omega arith)

pub returns-in-Err : goal.returns-in-Err
returns-in-Err c = rw (c.word.ensures, c.at.ensures) (count_no_word c.requires c.in-Err.ensures)
