use Rattle.std.proofs.Common.{sym, ap, ◌∙◌, pos, length, arith}
use Rattle.std.proofs.lemmas.List.{length-map}
use Rattle.headings.specs.Laws.Bodies.{was_words, was_halves}
use Rattle.write_records.specs.Laws.Bodies.{words_image, halves_image, halves_list, natural_never, natural_halves}
use Rattle.write_records.proofs.unsigned.U32Halved.count_body.Goals as goal

pub count-requires-in-None : goal.count-requires-in-None
count-requires-in-None c =
    let v = c.requires.valid in
    (natural_never _ (halves_list c.args.h _ v (was_halves c.in-None.ensures)), omega (arith, v.count, length-map c.args.values.now pos))

pub returns-in-Some : goal.returns-in-Some
returns-in-Some c = (c.count.ensures.0 ∙ ap length (sym (words_image c.args.h _ _ (was_words c.in-Some.ensures).1)), omega arith)

pub returns-in-None : goal.returns-in-None
returns-in-None c =
    let counted = c.count-in-None.ensures in
    (counted.0 ∙ ap length (sym (natural_halves c.args.values.now) ∙ sym (halves_image c.args.h _ (was_halves c.in-None.ensures))), omega (arith, counted.1))
