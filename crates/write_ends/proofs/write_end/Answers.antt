use Rattle.std.proofs.Common.{◌≡◌, ap, ap₂, ◌∙◌, ℕ, ◌+◌, ◌-◌, ◌*◌, ◌/◌, arith}
use Rattle.layout.specs.Bits.{in_bits, bits_of, put}
use Rattle.format.specs.Answers.{Start}
use Rattle.layout.proofs.Laws.Bits.{in_bits_zero}
use Rattle.pen.specs.Laws.Bytes.{all_bytes}
use Rattle.write_ends.specs.Laws.End.{end_buffer_long, end_start_outside, end_full, end_done}
use Rattle.write_ends.proofs.write_end.Goals as goal
use Rattle.write_ends.proofs.write_end.Goals.{Else-bytes-at}

pub returns-then-too_long : goal.returns-then-too_long
returns-then-too_long c = end_buffer_long _ _ (omega (arith, c.if-too_long.true))

pub returns-then-bytes-at : goal.returns-then-bytes-at
returns-then-bytes-at c = end_start_outside _ _ (omega (arith, c.if-bytes-at.true, c.bit-at.ensures))

-- after the two tests the start is in its place
place : (c : Else-bytes-at) → Start c.args.buf.now c.args.start.0
place c = record { small = omega (arith, c.if-too_long.false); inside = omega (arith, c.if-bytes-at.false, c.bit-at.ensures) }

pub returns-then-full : goal.returns-then-full
returns-then-full c = end_full _ _ (place (goal.at.returns-then-full c).Else-bytes-at) (omega (arith, c.if-full.true, c.bit-at.ensures))

pub returns : goal.returns
returns c =
    let a = c.args in
    let before = a.buf.now in
    let start = a.start.0 in
    let after = c.field.new.buf in
    let stop : c.end-end.result.0 ≡ 8 * ((start + 3) / 8) + 8 = omega (arith, c.end-end.ensures, c.byte.ensures, c.after.ensures) in
    end_done before start c.end-end.result.0 after (place (goal.at.returns c).Else-bytes-at) (omega (arith, c.if-full.false, c.bit-at.ensures)) stop
    (all_bytes after c.slice_known-2-1.given)
    (c.field.ensures ∙ ap₂ (λ (i j : ℕ). put (bits_of before) i (in_bits (j - i) 0)) c.bit-at.ensures c.bit.ensures ∙ ap (put (bits_of before) start) (in_bits_zero (c.end-end.result.0 - start)))
