use Rattle.reading.specs.Laws.Refusals.{handed_on}
use Rattle.read_lists.specs.Laws.Through.{kept_through, not_kept_through}
use Rattle.read_lists.proofs.keep.Goals as goal

pub returns-in_err-judged : goal.returns-in_err-judged
returns-in_err-judged g c = rw (handed_on c.from_residual.ensures.1) (not_kept_through c.in_err-judged.ensures)

pub returns : goal.returns
returns g c = kept_through c.requires.within.1 c.in_ok-judged.ensures
