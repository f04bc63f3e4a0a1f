use Rattle.std.proofs.Common.{◌∙◌}
use Rattle.format.proofs.Laws.Parts.{width_size}
use Rattle.write_interpolative.proofs.width.Goals as goal

pub returns : goal.returns
returns c = (c.length.ensures.0 ∙ width_size c.args.possible, c.length.ensures.1)
