use Rattle.std.proofs.Common.{map}
use Rattle.headings.specs.Headings.{kind_of}
use Rattle.headings.specs.Bodies.{image_by}
use Rattle.write_lists.specs.Laws.Images.{Midway}
use Rattle.write_lists.proofs.write.Given as goal

abbrev pub invariant-loop-i : goal.invariant-loop-i
invariant-loop-i g l =
    let n = g.T.Item.number in
    Midway (image_by l.code) (kind_of l.kind) (map n l.values) l.initial.buf l.initial.next l.i (n l.before) l.buf l.next
