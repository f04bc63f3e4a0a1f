use Rattle.std.proofs.Common.{◌≡◌, refl, sym, ap, ◌∙◌, List, ℕ, ◌+◌, length, get_or, set, add-one, arith}
use Rattle.std.proofs.Math.Seq.{paste, paste-zero, paste-suc}
use Rattle.lines.proofs.numbers.append.Goals as goal

pub loop-i-init : goal.loop-i-init
loop-i-init c = paste-zero c.args.out.now c.args.at c.args.text.now

pub loop-i-preserved : goal.loop-i-preserved
loop-i-preserved c =
    let i = c.loop-i.i in
    let a = c.args in
    ap (λ (d : List ℕ). set d (a.at + i) (get_or a.text.now i 0)) c.loop-i.invariant
    ∙ paste-suc a.out.now a.at a.text.now i 0 (omega (arith, c.loop-i-test.true)) (omega (arith, c.requires, c.loop-i-test.true))
    ∙ ap (paste a.out.now a.at a.text.now) (sym (add-one i))

pub returns : goal.returns
returns c =
    let a = c.args in
    let all : c.loop-i.i ≡ length a.text.now = omega arith in
    record { value = refl; out_after = c.loop-i.invariant ∙ ap (paste a.out.now a.at a.text.now) all }
