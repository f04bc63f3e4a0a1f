use Rattle.std.proofs.Common.{refl, mod-lt, lt_of_lt_of_le, pow_pos, pow_mono, arith}
use Rattle.bits.proofs.number.part.Goals as goal

pub overflow_cast-result-2 : goal.overflow_cast-result-2
overflow_cast-result-2 c = record { fits = rw c.power.ensures.0 (lt_of_lt_of_le (mod-lt _ (pow_pos _)) (pow_mono {j = 8} (omega arith))) }

pub returns : goal.returns
returns c = rw c.power.ensures.0 (refl, mod-lt _ (pow_pos _))
