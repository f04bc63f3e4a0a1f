use Rattle.std.proofs.Common.{arith}
use Rattle.write_words.specs.Laws.Writes.{length_variable_byte}
use Rattle.write_words.proofs.variable_byte.count.Goals as goal

pub returns : goal.returns
returns c = omega (arith, length_variable_byte c.args.w)
