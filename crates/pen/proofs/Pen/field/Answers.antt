use Rattle.std.proofs.Common.{◌≡◌, sym, ap, ap₂, ◌∙◌, subst, ℕ, ◌+◌, ◌-◌, ◌*◌, ◌/◌, ◌%◌, ◌^◌, ◌<◌, shr_lt, arith}
use Rattle.layout.specs.Bits.{in_bits, bits_of, put}
use Rattle.pen.specs.Pen.{Drawn, first_of}
use Rattle.pen.specs.Laws.Pen.{shifted, all_lt, field_gathered, field_stored}
use Rattle.pen.proofs.Pen.field.Goals as goal
use Rattle.pen.proofs.Pen.field.Goals.{After-from}

-- the gathered bits and those of the field
whole : (c : After-from) → c.args.self.gathered * 2 ^ c.args.width % 2 ^ 64 + c.from.result ≡ c.args.self.gathered * 2 ^ c.args.width + c.args.value
whole c =
    let a = c.args in
    ap₂ (λ (m n : ℕ). m + n) (shifted a.self a.width a.value c.requires.0.held c.requires.2 c.requires.3).0 c.from.ensures

pub overflow_add-all : goal.overflow_add-all
overflow_add-all c =
    let a = c.args in
    let e = shifted a.self a.width a.value c.requires.0.held c.requires.2 c.requires.3 in
    omega (arith, e.0, e.1)

pub returns-then-few : goal.returns-then-few
returns-then-few c =
    let a = c.args in
    field_gathered a.buf.now a.self a.width a.value _ c.requires.0 c.requires.1 c.requires.3 (whole (goal.at.returns-then-few c).After-from) c.after-next.result c.after-next.ensures (omega (arith, c.if-few.true, c.bit-at.ensures))

pub overflow_cast-all : goal.overflow_cast-all
overflow_cast-all c =
    let a = c.args in
    let b = c.bit-at in
    let r = b.result % 32 + a.width - 32 in
    let e : a.self.at.0 % 32 + a.width ≡ 32 + r = omega (arith, b.ensures, c.if-few.false) in
    record { fits = shr_lt 32 r (subst (λ (n : ℕ). a.self.gathered * 2 ^ a.width % 2 ^ 64 + c.from.result < 2 ^ n) e (all_lt a.buf.now a.self a.width a.value _ c.requires.0 c.requires.1 c.requires.3 (whole (goal.at.overflow_cast-all c).After-from))) }

pub returns : goal.returns
returns c =
    let a = c.args in
    let b = c.bit-at in
    let on = c.after-next in
    let r = b.result % 32 + a.width - 32 in
    let e : a.self.at.0 % 32 + a.width ≡ 32 + r = omega (arith, b.ensures, c.if-few.false) in
    let f : 8 * c.new.result.0 ≡ first_of a.self.at.0 = omega (arith, b.ensures, c.new.ensures) in
    let all = a.self.gathered * 2 ^ a.width % 2 ^ 64 + c.from.result in
    subst (λ (m : ℕ). Drawn (in_bits a.width a.value) a.buf.now a.self c.store.new.buf (record { at = on.result; gathered = all % m })) (sym (c.from-2.ensures ∙ c.power.ensures.0))
    (field_stored a.buf.now a.self a.width a.value all c.requires.0 c.requires.1 c.requires.3 (whole (goal.at.returns c).After-from) on.result on.ensures r c.store.new.buf e c.requires.2 c.store.auto.buf
    (c.store.ensures ∙ ap (λ (m : ℕ). put (bits_of a.buf.now) m (in_bits 32 (all / 2 ^ r))) f))
