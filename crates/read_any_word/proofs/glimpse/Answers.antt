use Rattle.std.proofs.Common.{◌≡◌, ap, ◌∙◌, arith}
use Rattle.bits.specs.declared.BitPos.{BitPos}
use Rattle.glimpse_words.specs.Laws.Glimpsed.{glimpsed_taken}
use Rattle.read_any_word.proofs.glimpse.Goals as goal

pub look-requires : goal.look-requires
look-requires c =
    let w = c.requires in
    let at : c.bit.result ≡ c.args.c.at.0 = c.bit.ensures ∙ ap (λ (p : BitPos). p.0) c.at.ensures in
    (omega (arith, c.if-s-lt8.false), omega (arith, at, w.order, w.inside, c.if-left-eq0.false, c.left.ensures), w.small)

pub returns : goal.returns
returns c =
    let bit = c.bit in
    let at : c.bit.result ≡ c.args.c.at.0 = bit.ensures ∙ ap (λ (p : BitPos). p.0) c.at.ensures in
    glimpsed_taken c.args.s.now c.args.c c.requires c.in_ok-seen.seen (omega (arith, c.left-2.ensures)) bit.result at c.in_ok-seen.ensures
