use Rattle.std.proofs.Common.{◌≡◌, ◌∙◌, ap, ℕ, ◌+◌, ◌-◌, ◌*◌, ◌/◌, ◌%◌, ◌^◌, take, drop, arith}
use Rattle.layout.specs.Bits.{bits_of}
use Rattle.layout.specs.Laws.Bits.{val}
use Rattle.layout.proofs.Laws.Windows.{val_take_lt}
use Rattle.bits.specs.Laws.Bytes.{from_window}
use Rattle.bits.proofs.number.number.Goals as goal
use Rattle.bits.proofs.number.number.Goals.{After-window}

pub returns-then-width-eq0 : goal.returns-then-width-eq0
unfolding val
returns-then-width-eq0 c =
    let a = c.args in
    let e : 0 ≡ a.width = omega arith in
    ap (λ (m : ℕ). val (take m (drop a.at (bits_of a.s.now)))) e

value : (c : After-window)
    → c.window.result * 2 ^ (c.args.at % 8) % 2 ^ 64 / 2 ^ (64 - c.args.width)
    ≡ val (take c.args.width (drop c.args.at (bits_of c.args.s.now)))
value c =
    let a = c.args in
    let q = c.byte-first.result.0 in
    let f : q ≡ a.at / 8 = c.byte-first.ensures in
    let e : 8 * q + a.at % 8 ≡ a.at = omega arith in
    ap (λ (n : ℕ). n * 2 ^ (a.at % 8) % 2 ^ 64 / 2 ^ (64 - a.width)) c.window.ensures
    ∙ from_window a.s.now q (a.at % 8) a.width (omega arith) (omega arith)
    ∙ ap (λ (n : ℕ). val (take a.width (drop n (bits_of a.s.now)))) e

pub overflow_cast-result : goal.overflow_cast-result
overflow_cast-result c = record { fits = rw (value c) (val_take_lt 32 _ _ c.requires.1) }

pub returns : goal.returns
returns c = value c
