use Rattle.write_interpolative.proofs.+count_part.Given as goal

abbrev pub decreases-count_part : goal.decreases-count_part
decreases-count_part l = l.n
