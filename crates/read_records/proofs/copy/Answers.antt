use Rattle.std.proofs.Common.{◌≡◌, refl, ap, ap₂, ◌∙◌, List, ◌++◌, ℕ, take, drop, set, arith}
use Rattle.read_records.specs.Laws.Copied.{copied_more}
use Rattle.read_records.proofs.copy.Goals as goal

pub loop-i-init : goal.loop-i-init
loop-i-init g c = refl

pub loop-i-preserved : goal.loop-i-preserved
loop-i-preserved g c =
    let i = c.loop-i.i in
    let x = c.index-own-i.result in
    ap₂ (λ (l : List _) (v : _). set l i v) c.loop-i.invariant c.index-own-i.is ∙ copied_more x c.args.own.now c.args.list.now i (omega (arith, c.requires)) (omega (arith, c.requires))

pub returns : goal.returns
returns g c =
    let e : c.loop-i.i ≡ c.args.n = omega arith in
    record { front = c.loop-i.invariant ∙ ap (λ (k : ℕ). take k c.args.own.now ++ drop k c.args.list.now) e }
