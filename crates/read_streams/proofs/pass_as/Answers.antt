use Rattle.reading.specs.Laws.Judging.{was_whole, was_no}
use Rattle.reading.specs.Laws.Refusals.{handed_on}
use Rattle.read_streams.specs.Told.{after, no}
use Rattle.read_streams.proofs.pass_as.Goals as goal

pub returns-in_err-judged : goal.returns-in_err-judged
returns-in_err-judged g c = rw (handed_on c.from_residual.ensures.1) (no (was_no c.in_err-judged.ensures))

pub returns : goal.returns
returns g c = let w = was_whole c.in_ok-judged.ensures in after _ w.1
