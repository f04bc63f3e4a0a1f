use Rattle.read_lists.specs.Laws.Through.{judged_through}
use Rattle.read_lists.proofs.judge.Goals as goal

pub returns : goal.returns
returns g c = judged_through c.go_through.ensures
