use Rattle.std.proofs.Common.{arith}
use Rattle.bits.specs.Laws.Length.{size_pos, size_small}
use Rattle.write_words.specs.Laws.Writes.{length_gamma, length_delta}
use Rattle.write_words.proofs.delta.count.Goals as goal

pub count-requires : goal.count-requires
count-requires c = omega (arith, size_pos c.args.w c.requires)

pub returns : goal.returns
returns c =
    let n = c.length-digits.result in
    omega (arith, length_delta c.args.w n c.length-digits.ensures.0, length_gamma n, size_small n c.length-digits.ensures.1)
