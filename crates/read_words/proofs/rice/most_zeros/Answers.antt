use Rattle.std.proofs.Common.{div-le_self, refl, ◌-◌, arith}
use Rattle.format.specs.Limits.{largest_word}
use Rattle.read_words.proofs.rice.most_zeros.Goals as goal

pub overflow_cast-result : goal.overflow_cast-result
overflow_cast-result c =
    let h = div-le_self (largest_word - 1) c.args.p in
    omega (arith, h)

pub returns : goal.returns
returns c =
    (refl, div-le_self (largest_word - 1) c.args.p)
