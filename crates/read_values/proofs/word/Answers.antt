use Rattle.read_values.specs.Told.{is}
use Rattle.glimpse_words.specs.Laws.Glimpsed.{settled_taken}
use Rattle.read_values.proofs.word.Goals as goal

pub returns-in-Some : goal.returns-in-Some
returns-in-Some c = rw c.on.ensures (is (settled_taken c.in-Some.ensures))
