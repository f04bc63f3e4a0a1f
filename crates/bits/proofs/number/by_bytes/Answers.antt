use Rattle.std.proofs.Common.{◌≡◌, ◌∙◌, sym, ap, ap₂, refl, ℕ, ◌+◌, ◌*◌, ◌^◌, ◌≤◌, ◌<◌, take, drop, arith, rules}
use Rattle.layout.specs.Bits.{bits_of}
use Rattle.layout.specs.Laws.Bits.{val}
use Rattle.layout.proofs.Laws.Bits.{length_bits_of}
use Rattle.layout.proofs.Laws.Windows as laws
use Rattle.bits.proofs.number.by_bytes.Goals as goal
use Rattle.bits.proofs.number.by_bytes.Goals.{After-from}

pub loop-done-init : goal.loop-done-init
unfolding val
loop-done-init c = (search rules, refl)

pub overflow_mul-n : goal.overflow_mul-n
overflow_mul-n c =
    let a = c.args in
    let done = c.loop-done.done in
    let w = c.min-w.result in
    let e : c.loop-done.n * c.power.result ≡ val (take done (drop a.at (bits_of a.s.now))) * 2 ^ w = rw (c.loop-done.invariant.1, c.power.ensures.0) in
    let s = laws.val_step (bits_of a.s.now) a.at done w (rw length_bits_of (omega arith)) in
    let l : val (take (done + w) (drop a.at (bits_of a.s.now))) < 2 ^ 32 = laws.val_take_lt 32 (done + w) (drop a.at (bits_of a.s.now)) (omega arith) in
    omega (arith, e, s, l)

-- what the turn's sum is
step : (c : After-from)
    → c.loop-done.n * c.power.result + c.from.result
    ≡ val (take (c.loop-done.done + c.min-w.result)
    (drop c.args.at (bits_of c.args.s.now)))
step c =
    let a = c.args in
    let done = c.loop-done.done in
    let w = c.min-w.result in
    ap₂ (λ (x y : ℕ). x + y) (ap₂ (λ (x y : ℕ). x * y) c.loop-done.invariant.1 c.power.ensures.0) (c.from.ensures ∙ c.within_byte.ensures)
    ∙ sym (laws.val_step (bits_of a.s.now) a.at done w (rw length_bits_of (omega arith)))

pub overflow_add-n : goal.overflow_add-n
overflow_add-n c =
    let k : c.loop-done.done + c.min-w.result ≤ 32 = omega arith in
    record { fits = rw (step c) (laws.val_take_lt 32 _ _ k) }

pub loop-done-preserved : goal.loop-done-preserved
loop-done-preserved c = (omega arith, step c)

pub returns : goal.returns
returns c =
    let e : c.loop-done.done ≡ c.args.width = omega arith in
    c.loop-done.invariant.1 ∙ ap (λ (m : ℕ). val (take m (drop c.args.at (bits_of c.args.s.now)))) e
