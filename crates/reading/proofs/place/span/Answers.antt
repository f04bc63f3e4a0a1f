use Rattle.std.proofs.Common.{arith, rules}
use Rattle.reading.specs.Laws.Places.{place_long, place_order, place_past, place_right}
use Rattle.reading.proofs.place.span.Goals as goal

pub returns-then-too_long : goal.returns-then-too_long
returns-then-too_long c = rw c.told_0.ensures (place_long _ _ _ (omega (arith, c.if-too_long.true)))

pub returns-then-bit : goal.returns-then-bit
returns-then-bit c = rw c.told_0-then-bit.ensures (place_order _ _ _ (omega (arith, c.if-bit.true, c.bit-2.ensures, c.bit.ensures)))

pub returns-then-s-bit : goal.returns-then-s-bit
returns-then-s-bit c = rw c.told_0-then-s-bit.ensures (place_past _ _ _ (omega (arith, c.if-s-bit.true, c.bit-3.ensures)))

pub returns : goal.returns
returns c = rw c.new.ensures.0 (place_right _ _ _ (omega (arith, c.if-too_long.false)) (search rules) (search rules))
