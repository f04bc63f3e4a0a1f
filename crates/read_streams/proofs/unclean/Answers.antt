use Rattle.std.proofs.Common.{◌≡◌, ap, ◌∙◌, arith}
use Rattle.bits.specs.declared.BitPos.{BitPos}
use Rattle.lists.specs.Laws.Tests.{unless_equal}
use Rattle.read_streams.specs.Laws.Streams.{padding_long, padding_zero, padding_one}
use Rattle.read_streams.proofs.unclean.Goals as goal

pub returns-then-longer : goal.returns-then-longer
returns-then-longer c =
    padding_long c.args.s.now c.args.c c.requires (omega (arith, c.if-longer.true, c.left-rest.ensures))

pub number-requires : goal.number-requires
number-requires c =
    let w = c.requires in
    let at : c.bit.result ≡ c.args.c.at.0 = c.bit.ensures ∙ ap (λ (p : BitPos). p.0) c.at.ensures in
    (omega (arith, w.order, w.inside, at, c.left-rest.ensures), omega (arith, c.if-longer.false), w.small)

pub returns : goal.returns
returns c =
    let at : c.bit.result ≡ c.args.c.at.0 = c.bit.ensures ∙ ap (λ (p : BitPos). p.0) c.at.ensures in
    unless_equal _ _
    (padding_one c.args.s.now c.args.c c.requires _ _ _ at c.left-rest.ensures c.number.ensures)
    (padding_zero c.args.s.now c.args.c c.requires _ _ _ at c.left-rest.ensures c.number.ensures (omega (arith, c.if-longer.false)))
