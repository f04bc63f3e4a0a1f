use Rattle.std.proofs.Common.{◌+◌, ◌-◌, ◌<◌, arith}
use Rattle.format.specs.Records.{anyone}
use Rattle.lists.specs.Laws.Tests.{holds_if, fails_if}
use Rattle.reading.specs.Refusals.{refusal_number}
use Rattle.reading.specs.Laws.Refusals.{handed_on}
use Rattle.read_headings.specs.Told.{Headed, Ended}
use Rattle.read_headings.specs.Laws.Told.{was_body, was_end, was_no}
use Rattle.read_headings.specs.Laws.Same.{headed_no_end}
use Rattle.read_streams.specs.Streams.{Passing}
use Rattle.read_streams.specs.Laws.Streams.{passing_none, passing_more, stream_no, stream_unclean, stream_ends, was_after, was_not_passed}
use Rattle.read_streams.proofs.check.Goals as goal
use Rattle.read_streams.proofs.check.Goals.{In-Body, In-End, In_ok-e-in-Body}

-- the heading that was read
headed : (c : In-Body) → Headed anyone c.args.s.now c.loop-h.c c.in-Body.h c.in-Body.n c.in-Body.d
headed c = was_body (rw c.in-Body.is at c.in_ok-h.ensures)

-- the end mark that was read
marked : (c : In-End) → Ended c.args.s.now c.loop-h.c c.in-End.d
marked c = was_end (rw c.in-End.is at c.in_ok-h.ensures)

-- a record that was passed is one more, and what is left of the bits is less
more : (c : In_ok-e-in-Body) → Passing c.args.s.now c.args.start c.in_ok-e-in-Body.e (c.loop-h.records + 1) (c.loop-h.values + c.in-Body.n)
    × (c.in_ok-e-in-Body.e.stop.0 - c.in_ok-e-in-Body.e.at.0 < c.loop-h.c.stop.0 - c.loop-h.c.at.0)
more c = passing_more c.loop-h.invariant (was_body (rw c.in-Body.is at c.in_ok-h.ensures)) (was_after c.in_ok-e-in-Body.ensures).1

pub loop-h-init : goal.loop-h-init
loop-h-init c = passing_none c.args.s.now c.args.start c.requires

pub read-requires : goal.read-requires
read-requires c = c.loop-h.invariant.within

pub returns-in_err-h : goal.returns-in_err-h
returns-in_err-h c =
    let k = was_no c.in_err-h.ensures in
    rw (handed_on c.from_residual.ensures.1) (stream_no c.loop-h.invariant k.mark k.whole)

pub pass-requires : goal.pass-requires
pass-requires c =
    let k = headed (goal.at.pass-requires c).In-Body in
    (k.reached.within, record { parameter = k.legal.parameter; instants = k.legal.instants }, k.legal.count)

pub returns-in_err-e-in-Body : goal.returns-in_err-e-in-Body
returns-in_err-e-in-Body c =
    let k = headed (goal.at.returns-in_err-e-in-Body c).In-Body in
    let r = c.in_err-e-in-Body.field-0.0 in
    rw (handed_on c.from_residual-in_err-e-in-Body.ensures.1)
    (stream_no c.loop-h.invariant (headed_no_end k) (k.reached.no (refusal_number r.why) r.at (was_not_passed c.in_err-e-in-Body.ensures)))

pub overflow_add-records : goal.overflow_add-records
overflow_add-records c =
    let i = c.loop-h.invariant in
    let w = i.within in
    omega (arith, i.few, w.order, w.inside, w.small)

pub overflow_add-values : goal.overflow_add-values
overflow_add-values c =
    let i = c.loop-h.invariant in
    let w = i.within in
    omega (arith, i.few, i.small, w.order, w.inside, w.small, (headed (goal.at.overflow_add-values c).In-Body).legal.count)

pub loop-h-smaller : goal.loop-h-smaller
loop-h-smaller c = (more (goal.at.loop-h-smaller c).In_ok-e-in-Body).1

pub loop-h-preserved : goal.loop-h-preserved
loop-h-preserved c = (more (goal.at.loop-h-preserved c).In_ok-e-in-Body).0

pub unclean-requires : goal.unclean-requires
unclean-requires c = (marked (goal.at.unclean-requires c).In-End).within

pub returns-then-unclean : goal.returns-then-unclean
returns-then-unclean c =
    stream_unclean c.loop-h.invariant (marked (goal.at.returns-then-unclean c).In-End) (fails_if c.unclean.ensures c.if-unclean.true) c.at.ensures

pub returns-in-End : goal.returns-in-End
returns-in-End c = stream_ends c.loop-h.invariant (marked (goal.at.returns-in-End c).In-End) (holds_if c.unclean.ensures c.if-unclean.false)
