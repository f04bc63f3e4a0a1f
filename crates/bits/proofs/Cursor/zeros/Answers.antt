use Rattle.std.proofs.Common.{◌≡◌, sym, ap, ◌∙◌, le_refl, take, drop, arith, rules}
use Rattle.layout.specs.Laws.Bits.{val}
use Rattle.layout.proofs.Laws.Windows.{val_take_lt}
use Rattle.bits.specs.Cursor.{left}
use Rattle.bits.specs.Laws.Cursor.{length_left, left_part}
use Rattle.bits.specs.Laws.Runs.{zeros_more, zeros_stop, zeros_end}
use Rattle.bits.proofs.Cursor.zeros.Goals as goal
use Rattle.bits.proofs.Cursor.zeros.Goals.{After-number-n}

pub before_one-requires : goal.before_one-requires
before_one-requires c = (search rules, rw c.number-n.ensures (val_take_lt c.min-m.result c.min-m.result _ (le_refl _)), search rules)

-- the bits that the number stands for
seen : (c : After-number-n)
    → c.number-n.result ≡ val (take c.min-m.result (drop c.loop-z.z (left c.args.self c.args.s.now)))
seen c =
    c.number-n.ensures ∙ ap val (sym (left_part c.args.s.now c.args.self c.requires c.loop-z.z c.min-m.result (omega arith)))

pub returns-then-n-ne0 : goal.returns-then-n-ne0
returns-then-n-ne0 c =
    let k = length_left c.args.s.now c.args.self c.requires in
    let e = c.before_one.ensures in (
      zeros_stop (left c.args.self c.args.s.now) c.loop-z.z c.min-m.result c.number-n.result
          c.loop-z.invariant.1 (omega (arith, k)) (seen (goal.at.returns-then-n-ne0 c).After-number-n) c.before_one.result e.0 e.1 e.2,
      omega arith,
    )

pub loop-z-preserved : goal.loop-z-preserved
loop-z-preserved c =
    let k = length_left c.args.s.now c.args.self c.requires in (
      omega arith,
      zeros_more (left c.args.self c.args.s.now) c.loop-z.z c.min-m.result c.number-n.result
          c.loop-z.invariant.1 (omega (arith, k)) (seen (goal.at.loop-z-preserved c).After-number-n) c.if-n-ne0.false,
    )

pub returns : goal.returns
returns c =
    (zeros_end (left c.args.self c.args.s.now) c.loop-z.z c.loop-z.invariant.1 (omega (arith, length_left c.args.s.now c.args.self c.requires)), omega arith)
