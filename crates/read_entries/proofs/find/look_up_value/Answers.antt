use Rattle.reading.specs.Laws.Places.{placed_within}
use Rattle.reading.specs.Laws.Refusals.{handed_on}
use Rattle.read_entries.specs.Laws.Readers.{asked_is, asked_stranger, was_asked, outside_entry, stranger_entry, looks_up_placed}
use Rattle.read_entries.proofs.find.look_up_value.Goals as goal

pub returns-in_err-c : goal.returns-in_err-c
returns-in_err-c g c = rw (handed_on c.from_residual.ensures.1) (outside_entry c.in_err-c.ensures)

pub returns-in_default : goal.returns-in_default
returns-in_default g c = rw c.new.ensures (stranger_entry c.in_ok-c.ensures (asked_stranger (rw c.family.ensures at c.in_default.ensures)))

pub look_up-requires : goal.look_up-requires
look_up-requires g c = (placed_within c.in_ok-c.ensures, (was_asked (asked_is (rw c.family.ensures at c.in-Some.ensures))).family)

pub returns : goal.returns
returns g c = looks_up_placed c.in_ok-c.ensures (asked_is (rw c.family.ensures at c.in-Some.ensures)) c.look_up.ensures
