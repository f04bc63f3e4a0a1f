use Rattle.std.proofs.Common.{arith}
use Rattle.write_interpolative.proofs.number_at.Goals as goal

pub overflow_add-result-2 : goal.overflow_add-result-2
overflow_add-result-2 c = omega (arith, c.shared_slice_known-1.given c.args.place)
