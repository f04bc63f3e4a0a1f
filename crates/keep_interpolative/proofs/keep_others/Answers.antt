use Rattle.std.proofs.Common.{◌∙◌, arith}
use Rattle.reading.specs.Judging as Judging
use Rattle.read_middles.specs.Laws.Next.{halted_why}
use Rattle.read_middles.specs.Laws.Body.{others_refused}
use Rattle.keep_interpolative.specs.Laws.Kept.{whole_kept}
use Rattle.keep_interpolative.proofs.keep_others.Goals as goal

pub returns-then-stop-next : goal.returns-then-stop-next
returns-then-stop-next c = λ from last. Judging.no (others_refused last c.keep_part-next.ensures c.if-stop-next.true _ (c.refused.ensures.why (halted_why c.keep_part-next.ensures c.if-stop-next.true (omega arith))) c.refused.ensures.at)

pub returns : goal.returns
returns c =
    λ from last.
    whole_kept last (omega (arith, c.requires)) c.args.own.now (omega (arith, c.requires)) c.keep_part-next.ensures c.if-stop-next.false c.store.ensures c.new-3.result (c.new-3.ensures.1 ∙ c.new.ensures) (c.new-3.ensures.2 ∙ c.new-2.ensures)
