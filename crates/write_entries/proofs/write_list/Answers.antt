use Rattle.std.proofs.Common.{◌≡◌, Some, None, Err, map, ◌≤◌, length, arith}
use Rattle.std.proofs.lemmas.List.{length-map}
use Rattle.format.specs.Limits.{longest_list}
use Rattle.format.specs.Answers.{Start}
use Rattle.headings.specs.Headings.{HeadingIs}
use Rattle.writing.specs.Wrote.{unfit_as}
use Rattle.writing.specs.declared.Unwritten.TheVariants.{Unknown}
use Rattle.write_entries.specs.Laws.Record.{was_chosen, buffer_long, start_past, none_chosen, too_many, unfit, valid_there, put_there}
use Rattle.write_entries.proofs.write_list.Goals as goal
use Rattle.write_entries.proofs.write_list.Goals.{Else-buf-bit, In_ok-h, Else-values-gt-LONGEST_LIST}

pub returns-then-buf-gt-LONGEST_BUFFER : goal.returns-then-buf-gt-LONGEST_BUFFER
returns-then-buf-gt-LONGEST_BUFFER g c = buffer_long (omega (arith, c.if-buf-gt-LONGEST_BUFFER.true))

pub returns-then-buf-bit : goal.returns-then-buf-bit
returns-then-buf-bit g c = start_past (omega (arith, c.if-buf-bit.true, c.bit.ensures))

-- after the two tests the start is in its place
place : (g : _) (c : Else-buf-bit g) → Start c.args.buf.now c.args.start.0
place g c = record { small = omega (arith, c.if-buf-gt-LONGEST_BUFFER.false); inside = omega (arith, c.if-buf-bit.false, c.bit.ensures) }

-- the heading that was chosen
heading : (g : _) (c : In_ok-h g) → let a = c.args in HeadingIs g.T.Item.of_family a.code a.parameter a.kind c.in_ok-h.h
heading g c =
    let e : c.choose.result ≡ Some c.in_ok-h.h = grind arith in
    was_chosen (rw (e, c.family.ensures) at c.choose.ensures)

-- after the third test the list is not too long
short : (g : _) (c : Else-values-gt-LONGEST_LIST g) → length (map g.T.Item.number c.args.values.now) ≤ longest_list
short g c = rw (length-map c.args.values.now g.T.Item.number) c.if-values-gt-LONGEST_LIST.false

pub returns-in_err-h : goal.returns-in_err-h
returns-in_err-h g c =
    let n : c.choose.result ≡ None = grind arith in
    let e : c.from_residual.result ≡ Err Unknown = grind arith in
    rw e (none_chosen (place g (goal.at.returns-in_err-h g c).Else-buf-bit) (rw (n, c.family.ensures) at c.choose.ensures))

pub returns-then-values-gt-LONGEST_LIST : goal.returns-then-values-gt-LONGEST_LIST
returns-then-values-gt-LONGEST_LIST g c =
    let k = goal.at.returns-then-values-gt-LONGEST_LIST g c in
    too_many (place g k.Else-buf-bit) (heading g k.In_ok-h) (rw (length-map c.args.values.now g.T.Item.number) c.if-values-gt-LONGEST_LIST.true)

pub returns-in_err-judge : goal.returns-in_err-judge
returns-in_err-judge g c =
    let k = goal.at.returns-in_err-judge g c in
    let e : c.from_residual-in_err-judge.result ≡ Err (unfit_as c.in_err-judge.field-0.0) = grind arith in
    rw e (unfit (place g k.Else-buf-bit) (heading g k.In_ok-h) (short g k.Else-values-gt-LONGEST_LIST) c.in_err-judge.ensures)

pub put-requires : goal.put-requires
put-requires g c =
    let k = goal.at.put-requires g c in
    valid_there (place g k.Else-buf-bit) (heading g k.In_ok-h) (short g k.Else-values-gt-LONGEST_LIST) c.in_ok-judge.ensures

pub returns : goal.returns
returns g c =
    let k = goal.at.returns g c in
    rw c.ok_or-2.ensures.value (put_there (place g k.Else-buf-bit) (heading g k.In_ok-h) (short g k.Else-values-gt-LONGEST_LIST) _ c.in_ok-judge.ensures c.put.ensures)
