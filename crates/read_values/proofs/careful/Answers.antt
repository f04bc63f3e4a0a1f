use Rattle.headings.specs.Laws.Bodies.{words_free}
use Rattle.reading.specs.Laws.Words.{word_refused}
use Rattle.read_words.specs.Laws.Told.{was_taken}
use Rattle.read_values.specs.Told.{is, no}
use Rattle.read_values.proofs.careful.Goals as goal

pub returns-in-Ok : goal.returns-in-Ok
returns-in-Ok c = is (was_taken c.in-Ok.ensures)

pub returns-in-Err : goal.returns-in-Err
returns-in-Err c = rw (c.word-in-Err.ensures, c.at.ensures) (no (word_refused (words_free c.args.code) c.requires c.in-Err.ensures))
