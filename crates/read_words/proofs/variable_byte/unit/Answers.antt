use Rattle.std.proofs.Common.{arith}
use Rattle.read_words.specs.Laws.Told.{was_taken, handed_on, first_refused, second_refused}
use Rattle.read_words.specs.Laws.VariableByte.{unit_parts, unit_told}
use Rattle.read_words.proofs.variable_byte.unit.Goals as goal

pub between-requires-2 : goal.between-requires-2
between-requires-2 c = ((was_taken c.in_ok-flag.ensures).within, omega arith, omega (arith, c.requires.2), omega arith)

pub overflow_mul-result : goal.overflow_mul-result
overflow_mul-result c = let (_, h, _) = (was_taken c.in_ok-flag.ensures).takes.valid in record { fits = omega arith }

pub overflow_add-result : goal.overflow_add-result
overflow_add-result c =
    let (_, h, _) = (was_taken c.in_ok-flag.ensures).takes.valid in
    let (_, k, _) = (was_taken c.in_ok-group.ensures).takes.valid in
    record { fits = omega arith }

pub returns : goal.returns
returns c = let (_, m, l) = c.requires in unit_told c.args.most c.args.lo m l (was_taken c.in_ok-flag.ensures) c.in_ok-group.ensures

pub returns-in_err-flag : goal.returns-in_err-flag
returns-in_err-flag c = let (_, m, l) = c.requires in handed_on c.from_residual.ensures.1 (first_refused (unit_parts c.args.most c.args.lo m l) c.in_err-flag.ensures)

pub returns-in_err-group : goal.returns-in_err-group
returns-in_err-group c =
    let (_, m, l) = c.requires in
    handed_on c.from_residual-in_err-group.ensures.1 (second_refused (unit_parts c.args.most c.args.lo m l) (was_taken c.in_ok-flag.ensures) c.in_err-group.ensures)
