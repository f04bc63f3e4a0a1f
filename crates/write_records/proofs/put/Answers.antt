use Rattle.write_records.specs.Laws.Images.{puts_full, puts_done}
use Rattle.write_records.proofs.put.Goals as goal

pub returns-then-left-count : goal.returns-then-left-count
returns-then-left-count g c = puts_full c.bit.ensures c.count.ensures.0 c.if-left-count.true

pub returns : goal.returns
returns g c =
    puts_done c.bit.ensures c.count.ensures.0 c.if-left-count.false c.write.ensures c.slice_known-2-1.given
