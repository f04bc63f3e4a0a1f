use Rattle.std.proofs.Common.{◌-◌, ◌/◌, arith}
use Rattle.format.proofs.Laws.Parts.{node}
use Rattle.read_middles.specs.Laws.Next.{lies}
use Rattle.read_middles.specs.Laws.Parts.{middle_halts, middle_alone, left_halts, both_halves}
use Rattle.judge_interpolative.specs.Laws.Parts.{told_none, told_determined, sums_alone, sums_both}
use Rattle.judge_interpolative.proofs.+judge_part.Goals as goal

pub returns-then-n-eq0-clause-told_part : goal.returns-then-n-eq0-clause-told_part
returns-then-n-eq0-clause-told_part t c = told_none _ _ _ _ (lies _ _ _ c.requires.place) c.if-n-eq0.true

pub returns-then-determined-clause-told_part : goal.returns-then-determined-clause-told_part
returns-then-determined-clause-told_part t c =
    let all = c.equal.ensures in
    rw all.0 (told_determined _ _ _ _ (lies _ _ _ c.requires.place) (omega arith) (omega arith) all.1)

pub returns-then-stop-after-clause-told_part : goal.returns-then-stop-after-clause-told_part
returns-then-stop-after-clause-told_part t c =
    let a = c.args in
    middle_halts (node a.n a.low a.hi (omega arith) (omega arith)) (lies _ _ _ c.requires.place) c.read_middle-m.ensures.told_middle c.if-stop-after.true

pub returns-then-n-eq1-clause-told_part : goal.returns-then-n-eq1-clause-told_part
returns-then-n-eq1-clause-told_part t c =
    let a = c.args in
    let g = node a.n a.low a.hi (omega arith) (omega arith) in
    let own = c.equal-middle.ensures in
    rw own.0 (middle_alone g (lies _ _ _ c.requires.place) c.read_middle-m.ensures.told_middle (omega arith) (omega arith) (omega arith) (sums_alone a.start ((a.n - 1) / 2) _ own.1 (omega arith)))

pub returns-then-stop-next-clause-told_part : goal.returns-then-stop-next-clause-told_part
returns-then-stop-next-clause-told_part t c =
    let a = c.args in
    let g = node a.n a.low a.hi (omega arith) (omega arith) in
    left_halts g (lies _ _ _ c.requires.place) c.read_middle-m.ensures.told_middle (omega arith) c.judge_part-left.ensures.told_part c.if-stop-next.true

pub returns-clause-told_part : goal.returns-clause-told_part
returns-clause-told_part t c =
    let a = c.args in
    let g = node a.n a.low a.hi (omega (arith, c.if-n-eq0.false)) (omega (arith, c.requires)) in
    rw c.joined.ensures
    (both_halves g (lies _ _ _ c.requires.place) c.read_middle-m.ensures.told_middle (omega (arith, c.if-stop-after.false)) c.judge_part-left.ensures.told_part (omega (arith, c.if-stop-next.false)) c.judge_part-right.ensures.told_part
    (sums_both a.start ((a.n - 1) / 2) c.read_middle-m.result.element c.equal-middle.ensures.1))
