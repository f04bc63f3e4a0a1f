use Rattle.std.proofs.Common.{◌≡◌, ◌+◌, arith}
use Rattle.format.specs.Codes.{size}
use Rattle.bits.specs.Laws.Length.{size_zero, size_half, size_le}
use Rattle.bits.proofs.length.length.Goals as goal

pub loop-rest-init : goal.loop-rest-init
loop-rest-init c = (omega arith, c.ranges.n.fits)

pub overflow_add-digits : goal.overflow_add-digits
overflow_add-digits c = omega (arith, size_le c.args.n)

pub loop-rest-preserved : goal.loop-rest-preserved
loop-rest-preserved c = omega (arith, size_half c.loop-rest.rest c.loop-rest-test.true c.loop-rest.invariant.1)

pub returns : goal.returns
returns c =
    let e : c.loop-rest.rest ≡ 0 = omega arith in
    let i : c.loop-rest.digits + size 0 ≡ size c.args.n = rw e at c.loop-rest.invariant.0 in
    omega (arith, size_zero, size_le c.args.n)
