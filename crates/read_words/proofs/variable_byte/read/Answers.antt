use Rattle.std.proofs.Common.{arith}
use Rattle.layout.specs.Bits.{in_bits}
use Rattle.layout.specs.Layout.{word}
use Rattle.bits.specs.Cursor.{Taken}
use Rattle.read_words.specs.Laws.Told.{was_taken, handed_on}
use Rattle.read_words.specs.Laws.VariableByte.{NextGroup, start, unit_refused, last, next}
use Rattle.read_words.proofs.variable_byte.read.Goals as goal
use Rattle.read_words.proofs.variable_byte.read.Goals.{In_ok-v}

-- the flag and the group that were taken
taken : (c : In_ok-v) → Taken (word (NextGroup c.loop-v.acc) (in_bits 8)) c.args.s.now c.loop-v.d c.in_ok-v.v c.in_ok-v.e
taken c = was_taken (rw (c.none.ensures, c.none-in-loop-v.ensures) at c.in_ok-v.ensures)

pub loop-v-init : goal.loop-v-init
loop-v-init c = start c.args.s.now c.args.c c.requires

pub returns-then-v-eq0 : goal.returns-then-v-eq0
returns-then-v-eq0 c = last c.loop-v.invariant (taken (goal.at.returns-then-v-eq0 c).In_ok-v) (omega arith)

pub loop-v-smaller : goal.loop-v-smaller
loop-v-smaller c =
    let (_, l, _) = (taken (goal.at.loop-v-smaller c).In_ok-v).takes.valid in
    let n = next c.loop-v.invariant (taken (goal.at.loop-v-smaller c).In_ok-v) (omega arith) in
    omega (arith, n.room)

pub loop-v-preserved : goal.loop-v-preserved
loop-v-preserved c = next c.loop-v.invariant (taken (goal.at.loop-v-preserved c).In_ok-v) (omega arith)

pub returns-in_err-v : goal.returns-in_err-v
returns-in_err-v c = handed_on c.from_residual.ensures.1 (unit_refused c.loop-v.invariant (rw (c.none.ensures, c.none-in-loop-v.ensures) at c.in_err-v.ensures))
