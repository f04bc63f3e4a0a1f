use Rattle.std.proofs.Common.{ℕ, ◌+◌, ◌-◌, ◌*◌, ◌/◌, ◌^◌, refl, arith}
use Rattle.std.specs.Int.Count.{count_leading_zeros}
use Rattle.glimpse_words.specs.Laws.Glimpsed.{seen_as, rice_seen, rice_within}
use Rattle.glimpse_words.proofs.rice.Goals as goal

pub overflow_sub-n : goal.overflow_sub-n
overflow_sub-n c = (rice_within c.args.n c.args.k c.power-one.result c.power-one.ensures.0 (omega (arith, c.if-n-eq0.false)) c.ranges.n.fits (omega (arith, c.if-bits-gt32.false))).0

pub returns : goal.returns
returns c =
    let n : ℕ = c.args.n in
    let z : ℕ = count_leading_zeros 64 n in
    let (a, w, e) = rice_seen n z c.args.k c.power-one.result c.power-one.ensures.0 (omega (arith, c.if-n-eq0.false)) c.ranges.n.fits refl (omega (arith, c.if-bits-gt32.false)) in
    seen_as (z * c.power-one.result + (n / 2 ^ (64 - (z + 1 + c.args.k)) - c.power-one.result) + 1) (z + 1 + c.args.k) w (omega arith) e c.settled.ensures
