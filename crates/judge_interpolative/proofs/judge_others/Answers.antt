use Rattle.std.proofs.Common.{refl, ◌≡◌, ◌∙◌, ℕ, ◌-◌, replicate, arith}
use Rattle.equal_instants.specs.Sums.{total, at_place, is_below, Sums}
use Rattle.reading.specs.Judging as Judging
use Rattle.read_middles.specs.Laws.Next.{halted_why}
use Rattle.read_middles.specs.Laws.Body.{others_refused}
use Rattle.judge_interpolative.specs.Laws.Judged.{value_small, judged_whole}
use Rattle.judge_interpolative.proofs.judge_others.Goals as goal

pub returns-then-stop-next : goal.returns-then-stop-next
returns-then-stop-next c = λ from last. Judging.no (others_refused last c.judge_part-r.ensures.told_part c.if-stop-next.true _ (c.refused.ensures.why (halted_why c.judge_part-r.ensures.told_part c.if-stop-next.true (omega arith))) c.refused.ensures.at)

-- the last instant's own sums
own : (place sought start t : ℕ) {value : ℕ} → value ≡ total (at_place place) start (replicate 1 t) → Sums place sought start (replicate 1 t) value (total (is_below sought) start (replicate 1 t))
own place sought start t e = record { value_is = e; less_is = refl }

pub overflow_cast-value : goal.overflow_cast-value
overflow_cast-value c =
    let a = c.args in
    omega (arith, value_small _ c.judge_part-r.ensures.told_part c.if-stop-next.false (omega arith) (own a.place a.sought (a.n - 1) a.last c.value_at.ensures.0) refl (omega arith))

pub returns : goal.returns
returns c =
    λ from last.
    judged_whole _ c.judge_part-r.ensures.told_part c.if-stop-next.false (omega arith) (record { value_is = c.value_at.ensures.0; less_is = c.below.ensures.0 (c.args.n - 1) }) last c.new-3.result (c.new-3.ensures.1 ∙ c.new.ensures) (c.new-3.ensures.2 ∙ c.new-2.ensures)
