use Rattle.std.proofs.Common.{map, ◌*◌, ◌≤◌}
use Rattle.headings.specs.Headings.{kind_of}
use Rattle.headings.specs.Bodies.{image_by}
use Rattle.write_lists.specs.Laws.Images.{Counted}
use Rattle.write_lists.proofs.count.Given as goal

abbrev pub invariant-loop-v : goal.invariant-loop-v
invariant-loop-v g l =
    let n = g.T.Item.number in
    Counted (image_by l.code) (kind_of l.kind) (map n l.values) l.v-index (n l.before) l.total × (l.total ≤ 4294967326 * l.v-index)
