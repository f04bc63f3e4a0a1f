use Rattle.write_interpolative.proofs.+write_part.Given as goal

abbrev pub decreases-write_part : goal.decreases-write_part
decreases-write_part l = l.n
