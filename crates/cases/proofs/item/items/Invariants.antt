use Rattle.std.proofs.Common.{◌≡◌, ◌≤◌, length}
use Rattle.cases.proofs.item.items.Given as goal

abbrev pub invariant-loop-item : goal.invariant-loop-item
invariant-loop-item l = (l.count ≤ length l.list) × (length l.list ≡ length l.initial.list)
