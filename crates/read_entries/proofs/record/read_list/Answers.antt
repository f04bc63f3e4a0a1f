use Rattle.reading.specs.Laws.Places.{placed_within}
use Rattle.reading.specs.Laws.Refusals.{handed_on}
use Rattle.read_entries.specs.Laws.Readers.{was_asked, reads_outside, reads_stranger, reads_placed}
use Rattle.read_entries.proofs.record.read_list.Goals as goal

pub returns-in_err-c : goal.returns-in_err-c
returns-in_err-c g c = rw (handed_on c.from_residual.ensures.1) (reads_outside c.in_err-c.ensures)

pub returns-in_err-t : goal.returns-in_err-t
returns-in_err-t g c = rw (handed_on c.from_residual-in_err-t.ensures.1) (reads_stranger c.in_ok-c.ensures c.in_err-t.ensures)

pub read-requires : goal.read-requires
read-requires g c = (placed_within c.in_ok-c.ensures, (was_asked c.in_ok-t.ensures).family)

pub returns : goal.returns
returns g c = reads_placed c.in_ok-c.ensures c.in_ok-t.ensures c.read.ensures
