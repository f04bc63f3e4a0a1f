use Rattle.std.proofs.Common.{◌-◌, ◌/◌, arith}
use Rattle.format.proofs.Laws.Parts.{node}
use Rattle.read_middles.specs.Laws.Next.{lies}
use Rattle.read_middles.specs.Laws.Parts.{middle_halts, middle_alone, left_halts, both_halves}
use Rattle.keep_interpolative.specs.Laws.Stored.{kept_none, stored_alone, stored_both}
use Rattle.keep_interpolative.proofs.+keep_part.Goals as goal

pub returns-then-n-eq0 : goal.returns-then-n-eq0
returns-then-n-eq0 t c = kept_none _ _ _ _ c.args.list.now (lies _ _ _ c.requires.place) c.if-n-eq0.true

pub returns-then-stop-after : goal.returns-then-stop-after
returns-then-stop-after t c =
    let a = c.args in
    middle_halts (node a.n a.low a.hi (omega arith) (omega arith)) (lies _ _ _ c.requires.place) c.read_middle-m.ensures.told_middle c.if-stop-after.true

pub returns-then-n-eq1 : goal.returns-then-n-eq1
returns-then-n-eq1 t c =
    let a = c.args in
    let g = node a.n a.low a.hi (omega arith) (omega arith) in
    middle_alone g (lies _ _ _ c.requires.place) c.read_middle-m.ensures.told_middle (omega arith) (omega arith) (omega arith)
    (stored_alone a.start ((a.n - 1) / 2) c.read_middle-m.result.element a.list.now c.store.ensures (omega arith))

pub returns-then-stop-next : goal.returns-then-stop-next
returns-then-stop-next t c =
    let a = c.args in
    let g = node a.n a.low a.hi (omega arith) (omega arith) in
    left_halts g (lies _ _ _ c.requires.place) c.read_middle-m.ensures.told_middle (omega arith) c.keep_part-next.ensures c.if-stop-next.true

pub returns : goal.returns
returns t c =
    let a = c.args in
    let g = node a.n a.low a.hi (omega (arith, c.if-n-eq0.false)) (omega (arith, c.requires)) in
    both_halves g (lies _ _ _ c.requires.place) c.read_middle-m.ensures.told_middle (omega (arith, c.if-stop-after.false)) c.keep_part-next.ensures (omega (arith, c.if-stop-next.false)) c.keep_part.ensures
    (stored_both a.start ((a.n - 1) / 2) c.read_middle-m.result.element a.list.now c.store.ensures)
