use Rattle.std.proofs.Common.{inl, inr, arith}
use Rattle.read_words.specs.Laws.Ranges.{live_none, live_more, live_upto, live_all}
use Rattle.read_words.proofs.parts.live.Goals as goal

pub loop-j-init : goal.loop-j-init
loop-j-init c = let a = c.args in live_none a.v a.w a.n a.lo a.hi c.requires.2 c.requires.3 c.requires.4

pub returns-then-p-lo : goal.returns-then-p-lo
returns-then-p-lo c =
    let a = c.args in
    let l = c.loop-j in
    live_upto a.v a.w a.n a.lo a.hi l.j l.invariant (inl c.if-p-lo.true)

pub returns-then-hi-n : goal.returns-then-hi-n
returns-then-hi-n c =
    let a = c.args in
    let l = c.loop-j in
    live_upto a.v a.w a.n a.lo a.hi l.j l.invariant (inr c.if-hi-n.true)

pub loop-j-preserved : goal.loop-j-preserved
loop-j-preserved c =
    let a = c.args in
    let l = c.loop-j in
    live_more a.v a.w a.n a.lo a.hi l.j (omega arith) (λ h. omega arith) (λ h. omega arith)

pub returns : goal.returns
returns c =
    let a = c.args in
    let l = c.loop-j in
    live_all a.v a.w a.n a.lo a.hi l.j l.invariant (omega arith)
