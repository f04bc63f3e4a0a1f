use Rattle.std.proofs.Common.{ap, ◌∙◌, inl, inr, min, arith}
use Rattle.bits.specs.Laws.Cursor.{field_taken, field_refused}
use Rattle.read_words.specs.Laws.Ranges.{FieldRead, range_took, range_cut, range_bad}
use Rattle.read_words.proofs.parts.between.Goals as goal
use Rattle.read_words.proofs.parts.between.Goals.{In-Some}

field-read : (c : In-Some) → let a = c.args in FieldRead a.s.now a.c a.n a.lo a.hi c.min-w.result c.in-Some.v c.in-Some.d
field-read c =
    let pre = c.requires in
    record { within = pre.0; order = pre.2; high = pre.3; width = c.min-w.ensures ∙ ap (min c.args.n) c.left.ensures; taken = field_taken c.in-Some.ensures }

pub live-requires : goal.live-requires
live-requires c =
    let read = field-read (goal.at.live-requires c).In-Some in
    (omega arith, c.requires.1, read.order, read.high, read.taken.takes.valid)

pub returns-then-v64-lo : goal.returns-then-v64-lo
returns-then-v64-lo c = range_bad (field-read (goal.at.returns-then-v64-lo c).In-Some) (inl c.if-v64-lo.true) c.live.ensures c.ahead.ensures

pub live-requires-then-hi-rest : goal.live-requires-then-hi-rest
live-requires-then-hi-rest c =
    let read = field-read (goal.at.live-requires-then-hi-rest c).In-Some in
    (omega arith, c.requires.1, read.order, read.high, read.taken.takes.valid)

pub returns-then-hi-rest : goal.returns-then-hi-rest
returns-then-hi-rest c = range_bad (field-read (goal.at.returns-then-hi-rest c).In-Some) (inr c.if-hi-rest.true) c.live-then-hi-rest.ensures c.ahead-then-hi-rest.ensures

pub returns-then-rest-eq0 : goal.returns-then-rest-eq0
returns-then-rest-eq0 c = range_took (field-read (goal.at.returns-then-rest-eq0 c).In-Some) c.if-rest-eq0.true c.if-v64-lo.false c.if-hi-rest.false

pub returns : goal.returns
returns c = range_cut (field-read (goal.at.returns c).In-Some) c.if-rest-eq0.false c.if-v64-lo.false c.if-hi-rest.false

pub returns-in_default : goal.returns-in_default
returns-in_default c =
    let a = c.args in
    absurd (field_refused a.s.now a.c c.requires.0 c.min-w.result (omega arith) c.in_default.ensures)
