use Rattle.std.proofs.Common.{arith}
use Rattle.bits.specs.Laws.Length.{size_pos}
use Rattle.write_words.specs.Laws.Writes.{length_gamma}
use Rattle.write_words.proofs.gamma.count.Goals as goal

pub overflow_sub-result : goal.overflow_sub-result
overflow_sub-result c = omega (arith, size_pos c.args.w c.requires)

pub returns : goal.returns
returns c = omega (arith, size_pos c.args.w c.requires, length_gamma c.args.w)
