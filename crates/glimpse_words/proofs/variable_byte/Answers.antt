use Rattle.std.proofs.Common.{◌/◌, ◌^◌, ◌<◌, arith}
use Rattle.glimpse_words.specs.Laws.Glimpsed.{group_seen, two_seen, three_seen, four_seen}
use Rattle.glimpse_words.proofs.variable_byte.Goals as goal
use Rattle.glimpse_words.proofs.variable_byte.Goals.{Else-first-eq128}

pub returns-then-alone : goal.returns-then-alone
returns-then-alone c = group_seen (omega (arith, c.if-first-eq0.false)) c.if-alone.true c.settled.ensures

-- the first group is one that others follow
followed : (c : Else-first-eq128) → let first = c.args.n / 2 ^ 56 in (128 < first) × (first < 256)
followed c = (omega (arith, c.if-alone.false, c.if-first-eq128.false), omega (arith, c.ranges.n))

pub returns-then-second-lt128 : goal.returns-then-second-lt128
returns-then-second-lt128 c = two_seen (followed (goal.at.returns-then-second-lt128 c).Else-first-eq128) c.if-second-lt128.true c.settled-then-second-lt128.ensures

pub returns-then-third-lt128 : goal.returns-then-third-lt128
returns-then-third-lt128 c = three_seen (followed (goal.at.returns-then-third-lt128 c).Else-first-eq128) c.if-second-lt128.false c.if-third-lt128.true c.settled-then-third-lt128.ensures

pub returns-then-fourth-lt128 : goal.returns-then-fourth-lt128
returns-then-fourth-lt128 c = four_seen (followed (goal.at.returns-then-fourth-lt128 c).Else-first-eq128) c.if-second-lt128.false c.if-third-lt128.false c.if-fourth-lt128.true c.settled-then-fourth-lt128.ensures
