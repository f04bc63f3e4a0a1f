use Rattle.reading.specs.Laws.Refusals.{handed_on}
use Rattle.reading.specs.Laws.Steps.{no_field}
use Rattle.read_values.specs.Told.{is, no}
use Rattle.read_values.specs.Laws.Told.{word_was, word_was_none}
use Rattle.read_values.specs.Laws.Values.{value_is, value_none}
use Rattle.read_values.proofs.next.Goals as goal

pub formed-requires : goal.formed-requires
formed-requires g c = (c.requires.1, (word_was c.in_ok-w.ensures).takes.valid)

pub returns-in_err-w : goal.returns-in_err-w
returns-in_err-w g c = rw (handed_on c.from_residual.ensures.1) (no (no_field (word_was_none c.in_err-w.ensures)))

pub returns-in-Some : goal.returns-in-Some
returns-in-Some g c = is (value_is (word_was c.in_ok-w.ensures) c.in-Some.ensures)

pub returns-in-None : goal.returns-in-None
returns-in-None g c = rw c.at.ensures (no (value_none (word_was c.in_ok-w.ensures) c.requires.0 c.in-None.ensures))
