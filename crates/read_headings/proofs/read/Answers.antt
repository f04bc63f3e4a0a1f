use Rattle.format.specs.Records.{code_field}
use Rattle.bits.specs.Cursor.{Taken}
use Rattle.headings.specs.Headings.{code_of}
use Rattle.read_headings.specs.Laws.Told.{was_code, was_kind, was_parameter}
use Rattle.read_headings.specs.Laws.Headings.{body_told, no_count_told, no_parameter_told, no_kind_told, mark_told, no_code_told}
use Rattle.reading.specs.Laws.Refusals.{handed_on}
use Rattle.read_headings.proofs.read.Goals as goal
use Rattle.read_headings.proofs.read.Goals.{In-Some}

-- the code that was taken
code : (c : In-Some) → Taken code_field c.args.s.now c.args.c (code_of c.in-Some.code) c.in_ok-found.d
code c = was_code (rw c.in-Some.is at c.in_ok-found.ensures)

pub returns-in_err-found : goal.returns-in_err-found
returns-in_err-found c = rw (handed_on c.from_residual.ensures.1) (no_code_told c.requires c.in_err-found.ensures)

pub returns-in_default : goal.returns-in_default
returns-in_default c = mark_told c.requires (rw c.in_default.is at c.in_ok-found.ensures)

pub returns-in_err-kind : goal.returns-in_err-kind
returns-in_err-kind c =
    rw (handed_on c.from_residual-in_err-kind.ensures.1) (no_kind_told c.requires c.in-Some.code (code (goal.at.returns-in_err-kind c).In-Some) c.in_err-kind.ensures)

pub returns-in_err-whole : goal.returns-in_err-whole
returns-in_err-whole c =
    let code = code (goal.at.returns-in_err-whole c).In-Some in
    rw (handed_on c.from_residual-in_err-whole.ensures.1) (no_parameter_told c.requires _ code c.in_ok-kind.kind (was_kind c.in_ok-kind.ensures) c.in_err-whole.ensures)

pub returns-in_err-n : goal.returns-in_err-n
returns-in_err-n c =
    let code = code (goal.at.returns-in_err-n c).In-Some in
    let with = was_parameter c.in_ok-whole.ensures in
    rw (handed_on c.from_residual-in_err-n.ensures.1) (no_count_told c.requires _ code c.in_ok-kind.kind (was_kind c.in_ok-kind.ensures) with c.in_err-n.ensures)

pub returns : goal.returns
returns c =
    let code = code (goal.at.returns c).In-Some in
    body_told c.requires _ code c.in_ok-kind.kind (was_kind c.in_ok-kind.ensures) (was_parameter c.in_ok-whole.ensures) c.in_ok-n.ensures
