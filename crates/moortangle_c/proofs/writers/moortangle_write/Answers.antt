use Rattle.std.proofs.Common.{map, ℕ, pos}
use Rattle.flat_answers.specs.Flat.{flat_written}
use Rattle.format.specs.Answers.{Outcome}
use Rattle.format.specs.Kinds.{Unsigned}
use Rattle.format.specs.Writing.{Writes}
use Rattle.moortangle_c.specs.Laws.Tells.{tells_at}
use Rattle.moortangle_c.proofs.writers.moortangle_write.Goals as goal

pub returns : goal.returns
returns c =
    let a = c.args in
    tells_at flat_written (λ (start : ℕ) (x : Outcome ℕ). Writes a.buffer.now start Unsigned a.code a.parameter a.kind (map pos a.values.now) x c.write.new.buf) c.at.ensures c.write.ensures c.from.ensures
