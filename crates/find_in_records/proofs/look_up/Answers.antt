use Rattle.std.proofs.Common.{rules}
use Rattle.reading.specs.Laws.Refusals.{handed_on}
use Rattle.find_in_records.specs.Laws.Finding.{finds_no, was_unseen, found, beyond}
use Rattle.find_in_records.proofs.look_up.Goals as goal

pub returns-in_err-seen : goal.returns-in_err-seen
returns-in_err-seen g c = rw (handed_on c.from_residual.ensures.1) (finds_no c.requires.0 (was_unseen c.in_err-seen.ensures))

pub returns-then-within : goal.returns-then-within
returns-then-within g c = found c.in_ok-seen.ensures (search rules)

pub returns : goal.returns
returns g c = rw c.told_0.ensures (beyond c.in_ok-seen.ensures (search rules))
