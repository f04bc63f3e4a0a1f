use Rattle.std.proofs.Common.{arith}
use Rattle.bits.specs.Laws.Length.{groups_by_size}
use Rattle.write_words.proofs.variable_byte.groups.Goals as goal

pub returns : goal.returns
returns c = omega (arith, groups_by_size c.args.w c.requires)
