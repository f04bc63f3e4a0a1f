use Rattle.std.proofs.Common.{sym, ap, ◌∙◌, length, arith}
use Rattle.headings.specs.Laws.Bodies.{was_words}
use Rattle.write_records.specs.Laws.Bodies.{words_image}
use Rattle.write_records.proofs.signed.I32Halved.count_body.Goals as goal

pub returns-in-Some : goal.returns-in-Some
returns-in-Some c = (c.count.ensures.0 ∙ ap length (sym (words_image c.args.h _ _ (was_words c.in-Some.ensures).1)), omega arith)
