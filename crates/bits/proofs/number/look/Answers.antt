use Rattle.bits.specs.Laws.Bytes.{looked}
use Rattle.bits.proofs.number.look.Goals as goal

pub returns : goal.returns
returns c =
    looked c.args.s.now c.args.at c.min-first.result c.window.result c.min-first.ensures c.requires.0 c.requires.1 c.window.ensures
