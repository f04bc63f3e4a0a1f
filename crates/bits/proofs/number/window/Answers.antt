use Rattle.std.proofs.Common.{◌≡◌, ap, ◌∙◌, ℕ, ◌+◌, ◌-◌, take, drop, arith}
use Rattle.std.specs.Int.{w64, from_be_bytes}
use Rattle.bits.specs.Laws.Bytes.{eight_joined}
use Rattle.bits.proofs.number.window.Goals as goal

pub returns : goal.returns
returns c =
    let s = c.args.s.now in
    let q = c.args.first.0 in
    let e : q + 8 - q ≡ 8 = omega arith in
    let whole = rw c.unwrap.ensures at c.try_into.ensures.1 in
    c.from_be_bytes.ensures
    ∙ ap (from_be_bytes w64) (whole.same ∙ ap (λ (n : ℕ). take n (drop q s)) e)
    ∙ eight_joined s q c.requires (λ i. (c.type_inv.s i).fits)
