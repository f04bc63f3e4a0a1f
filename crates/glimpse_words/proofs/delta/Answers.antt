use Rattle.std.proofs.Common.{ℕ, ◌+◌, ◌-◌, ◌*◌, ◌/◌, ◌%◌, ◌^◌, refl, arith}
use Rattle.std.specs.Int.Count.{count_leading_zeros}
use Rattle.glimpse_words.specs.Laws.Glimpsed.{seen_as, length_seen, delta_seen}
use Rattle.glimpse_words.proofs.delta.Goals as goal

pub returns : goal.returns
returns c =
    let n : ℕ = c.args.n in
    let z : ℕ = count_leading_zeros 64 n in
    let (few, some, most, image) = length_seen n z (omega (arith, c.if-n-lt288230376151711744.false)) c.ranges.n.fits refl in
    let l : ℕ = n / 2 ^ (64 - (2 * z + 1)) in
    let (w, e) = delta_seen n z l (n * 2 ^ (2 * z + 1) % 2 ^ 64) few refl some (omega (arith, c.if-size-gt32.false)) image refl (omega (arith, c.if-digits-lt9223372036854775808.false)) in
    seen_as (n * 2 ^ (2 * z + 1) % 2 ^ 64 / 2 ^ (64 - l)) (2 * z + 1 + l) w (omega (arith, c.if-size-gt32.false)) e c.settled.ensures
