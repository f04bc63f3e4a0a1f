use Rattle.std.proofs.Common.{arith}
use Rattle.bits.specs.Cursor.{took, cut}
use Rattle.bits.specs.Laws.Cursor.{field_took, field_cut}
use Rattle.bits.proofs.Cursor.field.Goals as goal

pub returns-then-left-width : goal.returns-then-left-width
returns-then-left-width c =
    cut (field_cut c.args.s.now c.args.self c.requires.0 c.args.width (omega arith))

pub returns : goal.returns
returns c =
    rw c.on.ensures (took (field_took c.args.s.now c.args.self c.requires.0 c.args.width c.number.result (omega arith) c.number.ensures))
