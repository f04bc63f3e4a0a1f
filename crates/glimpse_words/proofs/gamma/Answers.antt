use Rattle.std.proofs.Common.{refl, arith}
use Rattle.glimpse_words.specs.Laws.Glimpsed.{seen_as, gamma_seen}
use Rattle.glimpse_words.proofs.gamma.Goals as goal

pub returns : goal.returns
returns c =
    let (z, w, e) = gamma_seen c.args.n _ (omega (arith, c.if-long.false)) c.ranges.n.fits refl in
    seen_as _ _ w (omega arith) e c.settled.ensures
