use Rattle.judge_interpolative.proofs.+judge_part.Given as goal

abbrev pub decreases-judge_part : goal.decreases-judge_part
decreases-judge_part l = l.n
