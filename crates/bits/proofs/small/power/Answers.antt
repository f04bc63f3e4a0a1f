use Rattle.std.proofs.Common.{◌≡◌, ◌∙◌, ◌*◌, ◌%◌, ◌^◌, one-mul, lit<, shl_exact, pow_pos, arith}
use Rattle.bits.proofs.small.power.Goals as goal

pub returns : goal.returns
returns c =
    let e : (1 * 2 ^ c.args.k) % 2 ^ 32 ≡ 2 ^ c.args.k = shl_exact 1 c.args.k 32 (lit< tt) (omega arith) ∙ one-mul (2 ^ c.args.k) in
    (e, rw e (pow_pos c.args.k))
