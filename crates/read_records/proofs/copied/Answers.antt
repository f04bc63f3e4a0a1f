use Rattle.std.proofs.Common.{refl}
use Rattle.reading.specs.Laws.Judging.{kept_no}
use Rattle.reading.specs.Laws.Refusals.{handed_on}
use Rattle.read_records.specs.Told.{no}
use Rattle.read_records.specs.Laws.Copied.{listed_kept, copied_numbers}
use Rattle.read_records.proofs.copied.Goals as goal

pub returns-in_err-d : goal.returns-in_err-d
returns-in_err-d g c = rw (handed_on c.from_residual.ensures.1) (no (kept_no c.in_err-d.ensures) refl)

pub returns : goal.returns
returns g c = listed_kept c.in_ok-d.ensures (copied_numbers g.T.Item.number c.copy.ensures) c.at.ensures
