use Rattle.std.proofs.Common.{refl, get_or}
use Rattle.write_interpolative.specs.Laws.Body.{body_some}
use Rattle.write_interpolative.proofs.last.Goals as goal

pub returns : goal.returns
returns c =
    let a = c.args in
    body_some a.values.now a.others (get_or a.values.now a.others 0) c.requires.0 c.requires.1 refl
