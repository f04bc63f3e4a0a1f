use Rattle.std.proofs.Common.{sym, ap, ◌-◌, length, arith}
use Rattle.write_interpolative.specs.Laws.Body.{body_none, body_length}
use Rattle.write_interpolative.proofs.count.Goals as goal

pub returns-then-n-eq0 : goal.returns-then-n-eq0
returns-then-n-eq0 c =
    let a = c.args in
    (sym (ap length (body_none a.values.now c.if-n-eq0.true)), omega arith)

pub returns : goal.returns
returns c =
    let a = c.args in
    let l = c.last-last in
    omega (arith, body_length a.values.now (length a.values.now - 1) l.result l.ensures.0, c.count.ensures, c.count_part.ensures)
