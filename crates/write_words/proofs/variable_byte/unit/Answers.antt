use Rattle.std.proofs.Common.{arith}
use Rattle.write_words.specs.Laws.Writes.{last_unit, earlier_unit}
use Rattle.write_words.proofs.variable_byte.unit.Goals as goal

pub returns-then-later-eq0 : goal.returns-then-later-eq0
returns-then-later-eq0 c = (last_unit c.args.w c.args.later (omega arith), omega arith)

pub returns-else-later-eq0 : goal.returns-else-later-eq0
returns-else-later-eq0 c = (earlier_unit c.args.w c.args.later (omega arith), omega arith)
