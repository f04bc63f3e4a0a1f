use Rattle.std.proofs.Common.{◌≤◌, pow_mono, arith}
use Rattle.format.specs.Limits.{largest_word}
use Rattle.layout.specs.Bits.{in_bits}
use Rattle.layout.proofs.Laws.Parts.{Parts}
use Rattle.format.specs.Codes.{gamma}
use Rattle.read_words.specs.Told.{Upto, run, Upward}
use Rattle.read_words.specs.Laws.Told.{was_taken, handed_on, first_refused, second_refused, second_told}
use Rattle.read_words.specs.Laws.Readers.{After, gamma_parts, gamma_made}
use Rattle.read_words.proofs.gamma.read_upto.Goals as goal
use Rattle.read_words.proofs.gamma.read_upto.Goals.{After-power-p, Start}

small : (c : Start) → c.args.top ≤ largest_word
small c = omega (arith, c.ranges.top.fits)

-- the zeros and the bits after the first one make the word
parts : (c : Start) → let a = c.args in Parts (Upto a.most) run (After a.top a.most (small c) c.requires.2) (λ m. in_bits m) (Upward a.top) gamma
parts c = gamma_parts c.args.top c.args.most (small c) c.requires.2

-- the one after them is worth no more than the largest word
worth : (c : After-power-p) → c.power-p.result ≤ c.args.top
worth c =
    let s = pow_mono (was_taken c.in_ok-z.ensures).takes.valid in
    omega (arith, c.requires.2.low, c.power-p.ensures.0)

pub power-p-requires : goal.power-p-requires
power-p-requires c = omega (arith, (was_taken c.in_ok-z.ensures).takes.valid, c.requires.1)

pub most_after-requires : goal.most_after-requires
most_after-requires c = (c.power-p.ensures.1, worth c)

pub between-requires : goal.between-requires
between-requires c =
    let t = was_taken c.in_ok-z.ensures in
    (t.within, omega (arith, t.takes.valid, c.requires.1), omega arith, rw c.power-p.ensures.0 at c.most_after.ensures.1)

pub overflow_add-result : goal.overflow_add-result
overflow_add-result c =
    let at = goal.at.overflow_add-result c in
    let (_, h, _) = (was_taken c.in_ok-rest.ensures).takes.valid in
    record { fits = omega (arith, c.most_after.ensures.0, worth at.After-power-p, small at.Start) }

pub returns : goal.returns
unfolding parts
returns c =
    let at = goal.at.returns c in
    let a = c.args in
    let t = was_taken c.in_ok-z.ensures in
    let w = c.power-p.ensures.0 in
    rw w (second_told (parts at.Start) t (gamma_made a.top a.most (small at.Start) c.requires.2 c.in_ok-z.z c.in_ok-rest.rest t.takes.valid) (rw (c.most_after.ensures.0, w) at c.in_ok-rest.ensures))

pub returns-in_err-z : goal.returns-in_err-z
returns-in_err-z c =
    handed_on c.from_residual.ensures.1 (first_refused (parts (goal.at.returns-in_err-z c).Start) c.in_err-z.ensures)

pub returns-in_err-rest : goal.returns-in_err-rest
returns-in_err-rest c =
    handed_on c.from_residual-in_err-rest.ensures.1 (second_refused (parts (goal.at.returns-in_err-rest c).Start) (was_taken c.in_ok-z.ensures) (rw (c.most_after.ensures.0, c.power-p.ensures.0) at c.in_err-rest.ensures))
