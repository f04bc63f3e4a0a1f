use Rattle.std.proofs.Common.{◌≡◌, sym, ◌∙◌, map, to_z, of_z, to_z-of_z, w64}
use Rattle.std.proofs.lemmas.List.{length-map}
use Rattle.lists.specs.Laws.Judging.{At, at_number}
use Rattle.lines.specs.Laws.Stands.{upto_none, upto_room, upto_more, upto_all}
use Rattle.lines.proofs.values.Given.{Over}
use Rattle.lines.proofs.values.Goals as goal
use Rattle.lines.proofs.values.Goals.{After-wide}

module _ (g : Over) (c : After-wide g) where
  here : At (map g.T.Item.number c.args.list.now) c.loop-i.i (g.T.Item.number c.index-list-i.result)
  here = at_number g.T.Item.number c.args.list.now c.loop-i.i _ c.loop-i-test.true c.index-list-i.is

  -- the machine reads an i64 back from its bits
  value : to_z w64 (of_z w64 c.wide.result) ≡ g.T.Item.number c.index-list-i.result
  value = to_z-of_z {w = w64} (record { sfits = c.wide.type_inv }) ∙ c.wide.ensures.value

pub loop-i-init : goal.loop-i-init
loop-i-init g c = upto_none _ _ _ _ c.requires.0

pub number-at-requires : goal.number-at-requires
number-at-requires g c = rw (value g c) (upto_room _ _ _ _ c.requires.0 c.loop-i.invariant (here g c), rw c.wide.ensures.value at c.wide.ensures.size)

pub loop-i-preserved : goal.loop-i-preserved
loop-i-preserved g c =
    let w = (goal.at.loop-i-preserved g c).After-wide in
    let n = c.number-at.ensures in
    upto_more _ _ _ _ c.requires.0 c.loop-i.invariant (here g w) (rw (value g w, sym (length-map c.args.list.now g.T.Item.number)) at n.stands) (rw (value g w) at n.upper_bound) c.number-at.auto.out

pub returns : goal.returns
returns g c =
    let all = upto_all _ _ _ _ c.requires.0 c.loop-i.invariant (rw (length-map c.args.list.now g.T.Item.number) c.loop-i-test.false) in
    record { stands = all.0; upper_bound = all.1 }
