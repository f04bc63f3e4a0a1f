use Rattle.std.proofs.Common.{◌∙◌, arith}
use Rattle.read_entries.specs.Laws.Readers.{checks_all, checks_long}
use Rattle.read_entries.proofs.stream.check.Goals as goal

pub returns-then-s-gt-LONGEST_BUFFER : goal.returns-then-s-gt-LONGEST_BUFFER
returns-then-s-gt-LONGEST_BUFFER c = rw c.told_0.ensures (checks_long c.if-s-gt-LONGEST_BUFFER.true)

pub returns : goal.returns
returns c =
    let k = c.new-all.ensures in
    checks_all (omega (arith, c.if-s-gt-LONGEST_BUFFER.false)) (k.1 ∙ c.new.ensures) (k.2 ∙ c.new-2.ensures) c.check.ensures
