use Rattle.std.proofs.Common.{ℕ}
use Rattle.flat_answers.specs.Flat.{flat_written}
use Rattle.format.specs.Answers.{Outcome}
use Rattle.format.specs.Kinds.{Signed}
use Rattle.format.specs.Writing.{Writes}
use Rattle.moortangle_c.specs.Laws.Tells.{tells_at}
use Rattle.moortangle_c.proofs.writers.moortangle_write_corrections.Goals as goal

pub returns : goal.returns
returns c =
    let a = c.args in
    tells_at flat_written (λ (start : ℕ) (x : Outcome ℕ). Writes a.buffer.now start Signed a.code a.parameter a.kind a.values.now x c.write_corrections.new.buf) c.at.ensures c.write_corrections.ensures c.from.ensures
