use Rattle.read_entries.specs.Laws.Readers.{asked_is, asked_stranger}
use Rattle.read_entries.proofs.asked.Goals as goal

pub returns-in-Some : goal.returns-in-Some
returns-in-Some g c = asked_is (rw c.family.ensures at c.in-Some.ensures)

pub returns-in-None : goal.returns-in-None
returns-in-None g c = rw c.told_0.ensures (asked_stranger (rw c.family.ensures at c.in-None.ensures))
