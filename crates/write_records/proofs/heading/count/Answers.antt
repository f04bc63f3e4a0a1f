use Rattle.std.proofs.Common.{arith}
use Rattle.write_records.specs.Laws.Images.{length_heading}
use Rattle.write_records.proofs.heading.count.Goals as goal

pub returns : goal.returns
returns c =
    let e = length_heading c.args.h c.args.n in
    let w = c.parameter_width.ensures in
    let g = c.count.ensures in
    (omega (arith, e, w.0, g.0), omega arith)
