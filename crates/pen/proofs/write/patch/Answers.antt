use Rattle.std.proofs.Common.{◌≡◌, ◌+◌, ◌*◌, ◌/◌, ◌%◌, ◌<◌, arith}
use Rattle.pen.specs.Laws.Bytes.{patched}
use Rattle.pen.specs.Laws.Bytes.{patched_byte}
use Rattle.pen.proofs.write.patch.Goals as goal
use Rattle.pen.proofs.write.patch.Goals.{After-power-high}

-- the sum that the code forms
value : (c : After-power-high)
    → c.from-b.result / c.power-high.result * c.power-high.result + c.from-v.result * c.power-low.result + c.from-b.result % c.power-low.result
    ≡ patched c.args.b c.args.w c.args.k c.args.v
unfolding patched
value c = rw (c.from-b.ensures, c.from-v.ensures, c.power-high.ensures.0, c.power-low.ensures.0)

whole : (c : After-power-high)
    → c.from-b.result / c.power-high.result * c.power-high.result + c.from-v.result * c.power-low.result + c.from-b.result % c.power-low.result
    < 256
whole c = rw (value c) (patched_byte _ _ _ _ (omega arith) (omega arith) c.requires.1)

pub overflow_mul-result : goal.overflow_mul-result
overflow_mul-result c = omega (arith, whole c)

pub overflow_mul-result-2 : goal.overflow_mul-result-2
overflow_mul-result-2 c = omega (arith, whole c)

pub overflow_add-result : goal.overflow_add-result
overflow_add-result c = omega (arith, whole c)

pub overflow_add-result-2 : goal.overflow_add-result-2
overflow_add-result-2 c = omega (arith, whole c)

pub overflow_cast-result : goal.overflow_cast-result
overflow_cast-result c = omega (arith, whole c)

pub returns : goal.returns
returns c = value c
