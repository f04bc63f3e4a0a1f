use Rattle.std.proofs.Common.{◌-◌, ◌*◌, ◌≤◌, arith}
use Rattle.format.specs.Limits.{largest_word}
use Rattle.layout.specs.Layout.{word}
use Rattle.bits.specs.Cursor.{Taken}
use Rattle.read_words.specs.Told.{Upto, run}
use Rattle.read_words.specs.Laws.Told.{was_taken, handed_on, first_refused, second_refused, second_told}
use Rattle.read_words.specs.Laws.Readers.{rice_parts, rice_made, base_le, most}
use Rattle.read_words.proofs.rice.read.Goals as goal
use Rattle.read_words.proofs.rice.read.Goals.{In_ok-q}

-- the zeros that were taken
first : (c : In_ok-q) → let a = c.args in Taken (word (Upto (most a.k)) run) a.s.now a.c c.in_ok-q.q c.in_ok-q.d
first c = was_taken (rw (c.most_zeros.ensures.0, c.power-p.ensures.0) at c.in_ok-q.ensures)

-- what they are worth
base : (c : In_ok-q) → c.in_ok-q.q * c.power-p.result ≤ largest_word - 1
base c = rw c.power-p.ensures.0 (base_le c.args.k c.in_ok-q.q (first c).takes.valid)

pub overflow_mul-base : goal.overflow_mul-base
overflow_mul-base c = record { fits = omega (arith, base (goal.at.overflow_mul-base c).In_ok-q) }

pub most_after-requires : goal.most_after-requires
most_after-requires c = (c.power-p.ensures.1, base (goal.at.most_after-requires c).In_ok-q)

pub between-requires : goal.between-requires
between-requires c =
    ((first (goal.at.between-requires c).In_ok-q).within, omega (arith, c.requires.1), omega arith, rw c.power-p.ensures.0 at c.most_after.ensures.1)

pub overflow_add-result : goal.overflow_add-result
overflow_add-result c = record { fits = omega (arith, base (goal.at.overflow_add-result c).In_ok-q) }

pub overflow_cast-result : goal.overflow_cast-result
overflow_cast-result c = record { fits = omega (arith, base (goal.at.overflow_cast-result c).In_ok-q) }

pub overflow_add-result-2 : goal.overflow_add-result-2
overflow_add-result-2 c =
    let (_, h, _) = (was_taken c.in_ok-rest.ensures).takes.valid in
    record { fits = omega (arith, c.most_after.ensures.2) }

pub returns : goal.returns
returns c =
    let k = c.args.k in
    let t = first (goal.at.returns c).In_ok-q in
    let w = c.power-p.ensures.0 in
    rw w (second_told (rice_parts k) t (rice_made k c.in_ok-q.q c.in_ok-rest.rest t.takes.valid) (rw (c.most_after.ensures.0, w) at c.in_ok-rest.ensures))

pub returns-in_err-q : goal.returns-in_err-q
returns-in_err-q c = handed_on c.from_residual.ensures.1 (first_refused (rice_parts c.args.k) (rw (c.most_zeros.ensures.0, c.power-p.ensures.0) at c.in_err-q.ensures))

pub returns-in_err-rest : goal.returns-in_err-rest
returns-in_err-rest c =
    handed_on c.from_residual-in_err-rest.ensures.1 (second_refused (rice_parts c.args.k) (first (goal.at.returns-in_err-rest c).In_ok-q) (rw (c.most_after.ensures.0, c.power-p.ensures.0) at c.in_err-rest.ensures))
