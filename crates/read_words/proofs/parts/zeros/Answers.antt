use Rattle.std.proofs.Common.{arith}
use Rattle.read_words.specs.Laws.Zeros.{run_cut, run_took, run_bad}
use Rattle.read_words.proofs.parts.zeros.Goals as goal

pub returns-then-most-z : goal.returns-then-most-z
returns-then-most-z c =
    let z = c.zeros-z in
    rw c.ahead.ensures (run_bad c.args.s.now c.args.c c.requires.0 c.args.most z.result z.ensures.0 z.ensures.1 (omega arith))

pub returns-then-z-have : goal.returns-then-z-have
returns-then-z-have c =
    let z = c.zeros-z in
    run_cut c.args.s.now c.args.c c.requires.0 c.args.most z.result z.ensures.0 z.ensures.1 (omega arith) (omega arith)

pub returns : goal.returns
returns c =
    let z = c.zeros-z in
    rw c.on.ensures (run_took c.args.s.now c.args.c c.requires.0 c.args.most z.result z.ensures.0 z.ensures.1 (omega arith) (omega arith))
