use Rattle.std.proofs.Common.{ℕ}
use Rattle.flat_answers.specs.Flat.{flat_written}
use Rattle.format.specs.Answers.{Outcome}
use Rattle.format.specs.Writing.{WritesEnd}
use Rattle.moortangle_c.specs.Laws.Tells.{tells_at}
use Rattle.moortangle_c.proofs.writers.moortangle_write_end.Goals as goal

pub returns : goal.returns
returns c =
    let lent = c.args.buffer.now in
    tells_at flat_written (λ (start : ℕ) (x : Outcome ℕ). WritesEnd lent start x c.write_end.new.buf) c.at.ensures c.write_end.ensures c.from.ensures
