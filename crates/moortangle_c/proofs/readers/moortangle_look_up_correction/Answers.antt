use Rattle.std.proofs.Common.{ℕ}
use Rattle.format.specs.Kinds.{Signed}
use Rattle.flat_answers.specs.Flat.{flat_correction}
use Rattle.moortangle_c.specs.Laws.Tells.{tells_between}
use Rattle.format.specs.Reading.{LooksUp}
use Rattle.moortangle_c.proofs.readers.moortangle_look_up_correction.Goals as goal

pub returns : goal.returns
returns c =
    let a = c.args in
    tells_between flat_correction (λ (start stop : ℕ). LooksUp a.buffer.now start stop Signed a.kind a.place) c.at.ensures c.at-2.ensures c.look_up_correction.ensures c.from.ensures
