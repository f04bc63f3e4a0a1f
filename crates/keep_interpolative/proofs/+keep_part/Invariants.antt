use Rattle.keep_interpolative.proofs.+keep_part.Given as goal

abbrev pub decreases-keep_part : goal.decreases-keep_part
decreases-keep_part l = l.n
