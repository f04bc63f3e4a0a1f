use Rattle.std.proofs.Common.{Bool, List, div-one, ◌≡◌, ◌∙◌, sym, ap, refl, ℕ, ◌+◌, ◌-◌, ◌/◌, ◌%◌, ◌^◌, arith, rules}
use Rattle.layout.specs.Bits.{bits_of, in_bits, put}
use Rattle.layout.proofs.Laws.Bits.{length_bits_of}
use Rattle.layout.proofs.Laws.Windows as laws
use Rattle.pen.proofs.write.field.Goals as goal

pub loop-done-init : goal.loop-done-init
unfolding in_bits
loop-done-init c = (search rules, refl, sym (laws.put_nil _ _))

pub loop-done-preserved : goal.loop-done-preserved
loop-done-preserved c =
    let a = c.args in
    let done = c.loop-done.done in
    let w = c.min-w.result in
    let rest = a.width - done - w in
    let inv = c.loop-done.invariant in
    let e : a.width - done ≡ rest + w = omega arith in
    let f : a.width - (done + w) ≡ rest = omega arith in (
      omega arith,
      c.within_byte.auto.buf ∙ inv.1,
      c.within_byte.ensures
          ∙ ap (λ (m : ℕ). put (bits_of c.loop-done.buf) (a.at + done) (in_bits w m)) c.part-v.ensures.0
          ∙ ap (λ (l : List Bool). put l (a.at + done) (in_bits w (a.value / 2 ^ rest % 2 ^ w))) (inv.2 ∙ ap (λ (m : ℕ). put (bits_of a.buf.now) a.at (in_bits done (a.value / 2 ^ m))) e)
          ∙ laws.put_step (bits_of a.buf.now) a.at done w rest a.value (rw length_bits_of (omega arith))
          ∙ ap (λ (m : ℕ). put (bits_of a.buf.now) a.at (in_bits (done + w) (a.value / 2 ^ m))) (sym f),
    )

pub returns : goal.returns
returns c =
    let l = c.loop-done in
    let a = c.args in
    let e : l.done ≡ a.width = omega arith in
    let z : a.width - a.width ≡ 0 = omega arith in
    l.invariant.2
    ∙ ap (λ (m : ℕ). put (bits_of a.buf.now) a.at (in_bits m (a.value / 2 ^ (a.width - m)))) e
    ∙ ap (λ (m : ℕ). put (bits_of a.buf.now) a.at (in_bits a.width (a.value / 2 ^ m))) z
    ∙ ap (λ (m : ℕ). put (bits_of a.buf.now) a.at (in_bits a.width m)) (div-one a.value)
