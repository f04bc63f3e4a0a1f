use Rattle.std.proofs.Common.{◌-◌, arith}
use Rattle.std.proofs.Math.Pow.{shr_le}
use Rattle.write_words.specs.Laws.Writes.{length_rice}
use Rattle.write_words.proofs.rice.count.Goals as goal

pub overflow_add-result : goal.overflow_add-result
overflow_add-result c = omega (arith, shr_le (c.args.w - 1) c.args.k)

pub overflow_add-result-2 : goal.overflow_add-result-2
overflow_add-result-2 c = omega (arith, shr_le (c.args.w - 1) c.args.k)

pub returns : goal.returns
returns c = omega (arith, shr_le (c.args.w - 1) c.args.k, length_rice c.args.k c.args.w)
