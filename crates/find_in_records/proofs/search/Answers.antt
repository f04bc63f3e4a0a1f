use Rattle.reading.specs.Laws.Refusals.{handed_on}
use Rattle.find_in_records.specs.Laws.Finding.{searches_no, was_unseen, counts}
use Rattle.find_in_records.proofs.search.Goals as goal

pub returns-in_err-seen : goal.returns-in_err-seen
returns-in_err-seen c = rw (handed_on c.from_residual.ensures.1) (searches_no c.requires (was_unseen c.in_err-seen.ensures))

pub returns : goal.returns
returns c = counts c.in_ok-seen.ensures
