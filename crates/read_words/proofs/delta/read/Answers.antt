use Rattle.std.specs.Prelude.{Result}
use Rattle.std.proofs.Common.{ap, subst₂, ℕ, ◌-◌, ◌*◌, arith}
use Rattle.layout.specs.Bits.{in_bits}
use Rattle.bits.specs.declared.Cursor.{Cursor}
use Rattle.read_words.specs.declared.NoWord.{NoWord}
use Rattle.read_words.specs.Told.{ToldWord, Among}
use Rattle.read_words.specs.Laws.Told.{was_taken, handed_on, first_refused, second_refused, second_told}
use Rattle.read_words.specs.Laws.Readers.{Long, delta_parts, delta_made, double}
use Rattle.read_words.proofs.delta.read.Goals as goal
use Rattle.read_words.proofs.delta.read.Goals.{After-power-first}

-- the last part holds the numbers of the length that was taken
long : (c : After-power-first) {r : Result (ℕ × Cursor) NoWord} → let n = c.in_ok-n.n in let lo = c.power-first.result in
    ToldWord (Among n lo (2 * lo - 1)) (in_bits n) c.args.s.now c.in_ok-n.d r → ToldWord (Long n) (in_bits n) c.args.s.now c.in_ok-n.d r
long c {r} =
    let n = c.in_ok-n.n in
    let e = c.power-first.ensures.0 in
    let some = (was_taken c.in_ok-n.ensures).takes.valid.0 in
    subst₂ (λ (x y : ℕ). ToldWord (Among n x y) (in_bits n) c.args.s.now c.in_ok-n.d r) e (rw e (ap (λ (y : ℕ). y - 1) (double n some)))

pub overflow_sub-size : goal.overflow_sub-size
overflow_sub-size c = omega (arith, (was_taken c.in_ok-n.ensures).takes.valid.0)

pub power-first-requires : goal.power-first-requires
power-first-requires c = omega (arith, (was_taken c.in_ok-n.ensures).takes.valid.1)

pub between-requires : goal.between-requires
between-requires c =
    let t = was_taken c.in_ok-n.ensures in
    let (some, most) = t.takes.valid in
    let d = double c.in_ok-n.n some in
    let (e, q) = c.power-first.ensures in
    (t.within, most, omega arith, omega arith)

pub returns : goal.returns
returns c =
    let t = was_taken c.in_ok-n.ensures in
    second_told delta_parts t (delta_made c.in_ok-n.n c.in_ok-w.w t.takes.valid) (long (goal.at.returns c).After-power-first c.in_ok-w.ensures)

pub returns-in_err-n : goal.returns-in_err-n
returns-in_err-n c = handed_on c.from_residual.ensures.1 (first_refused delta_parts c.in_err-n.ensures)

pub returns-in_err-w : goal.returns-in_err-w
returns-in_err-w c =
    let last = long (goal.at.returns-in_err-w c).After-power-first c.in_err-w.ensures in
    handed_on c.from_residual-in_err-w.ensures.1 (second_refused delta_parts (was_taken c.in_ok-n.ensures) last)
