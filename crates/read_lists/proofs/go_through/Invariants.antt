use Rattle.std.proofs.Common.{◌≡◌, List, ◌++◌, pos, map, ◌≤◌, length, get_or, drop}
use Rattle.format.specs.Reading.{below}
use Rattle.headings.specs.Headings.{kind_of}
use Rattle.headings.specs.Bodies.{image_by}
use Rattle.read_values.specs.Reading.{Reading}
use Rattle.read_lists.proofs.go_through.Given as goal

abbrev pub invariant-loop-i : goal.invariant-loop-i
invariant-loop-i g l =
    let number = g.T.Item.number in
    (l.less ≤ l.i)
    × (xs : List _)
    × Reading (image_by l.code) (kind_of l.kind) l.n l.s l.initial.c l.i (number l.before) l.c (map number xs)
    × (number l.value ≡ get_or (map number xs) l.place (pos 0))
    × (l.less ≡ below l.sought (map number xs))
    × (length l.list ≡ length l.initial.list)
    × (l.n ≤ length l.initial.list → l.list ≡ xs ++ drop l.i l.initial.list)
