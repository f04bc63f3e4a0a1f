use Rattle.std.proofs.Common.{ℕ}
use Rattle.format.specs.Kinds.{Unsigned}
use Rattle.flat_answers.specs.Flat.{flat_value}
use Rattle.moortangle_c.specs.Laws.Tells.{tells_between}
use Rattle.format.specs.Reading.{LooksUp}
use Rattle.moortangle_c.proofs.readers.moortangle_look_up.Goals as goal

pub returns : goal.returns
returns c =
    let a = c.args in
    tells_between flat_value (λ (start stop : ℕ). LooksUp a.buffer.now start stop Unsigned a.kind a.place) c.at.ensures c.at-2.ensures c.look_up.ensures c.from.ensures
