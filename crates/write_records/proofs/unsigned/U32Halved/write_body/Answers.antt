use Rattle.std.proofs.Common.{sym, ◌∙◌, pos, arith}
use Rattle.std.proofs.lemmas.List.{length-map}
use Rattle.pen.specs.Laws.Pen.{room_as, drawn_as}
use Rattle.headings.specs.Laws.Bodies.{was_words, was_halves}
use Rattle.write_records.specs.Laws.Bodies.{words_image, halves_image, halves_list, natural_never, natural_halves}
use Rattle.write_records.proofs.unsigned.U32Halved.write_body.Goals as goal

pub write-requires-clause-room : goal.write-requires-clause-room
write-requires-clause-room c = room_as (words_image c.args.h _ _ (was_words c.in-Some.ensures).1) c.requires.room

pub write-requires-in-None-clause-never_falls : goal.write-requires-in-None-clause-never_falls
write-requires-in-None-clause-never_falls c =
    let v = c.requires.valid.valid in
    (natural_never _ (halves_list c.args.h _ v (was_halves c.in-None.ensures)), omega (arith, v.count, length-map c.args.values.now pos))

pub write-requires-in-None-clause-room : goal.write-requires-in-None-clause-room
write-requires-in-None-clause-room c = room_as (halves_image c.args.h _ (was_halves c.in-None.ensures) ∙ natural_halves c.args.values.now) c.requires.room

pub returns-in-Some : goal.returns-in-Some
returns-in-Some c = drawn_as (sym (words_image c.args.h _ _ (was_words c.in-Some.ensures).1)) c.write.ensures

pub returns-in-None : goal.returns-in-None
returns-in-None c = drawn_as (sym (halves_image c.args.h _ (was_halves c.in-None.ensures) ∙ natural_halves c.args.values.now)) c.write-in-None.ensures
