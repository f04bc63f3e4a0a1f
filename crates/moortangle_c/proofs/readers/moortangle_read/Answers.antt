use Rattle.moortangle_c.specs.Laws.Tells.{few_values, reads_tell}
use Rattle.moortangle_c.proofs.readers.moortangle_read.Goals as goal

pub record_of-requires : goal.record_of-requires
record_of-requires c = few_values c.read.ensures

pub returns : goal.returns
returns c =
    reads_tell c.at.ensures c.at-2.ensures c.read.ensures c.record_of.ensures
