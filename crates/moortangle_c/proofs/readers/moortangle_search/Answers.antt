use Rattle.std.proofs.Common.{ℕ}
use Rattle.flat_answers.specs.Flat.{flat_place}
use Rattle.moortangle_c.specs.Laws.Tells.{tells_between}
use Rattle.format.specs.Reading.{Searches}
use Rattle.moortangle_c.proofs.readers.moortangle_search.Goals as goal

pub returns : goal.returns
returns c =
    let a = c.args in
    tells_between flat_place (λ (start stop : ℕ). Searches a.buffer.now start stop a.instant) c.at.ensures c.at-2.ensures c.search.ensures c.from.ensures
