use Rattle.std.proofs.Common.{arith}
use Rattle.write_interpolative.specs.Laws.Parts.{halves}
use Rattle.write_interpolative.proofs.middle.Goals as goal

pub returns : goal.returns
returns c =
    let a = c.args in
    halves a.values.now a.start a.n a.low a.hi c.number_at.result (omega arith) (omega arith) (omega arith) c.number_at.ensures c.requires.ready.0
