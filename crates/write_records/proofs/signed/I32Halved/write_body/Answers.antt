use Rattle.std.proofs.Common.{sym}
use Rattle.pen.specs.Laws.Pen.{room_as, drawn_as}
use Rattle.headings.specs.Laws.Bodies.{was_words}
use Rattle.write_records.specs.Laws.Bodies.{words_image}
use Rattle.write_records.proofs.signed.I32Halved.write_body.Goals as goal

pub write-requires-clause-room : goal.write-requires-clause-room
write-requires-clause-room c = room_as (words_image c.args.h _ _ (was_words c.in-Some.ensures).1) c.requires.room

pub returns-in-Some : goal.returns-in-Some
returns-in-Some c = drawn_as (sym (words_image c.args.h _ _ (was_words c.in-Some.ensures).1)) c.write.ensures
