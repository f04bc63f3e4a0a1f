use Rattle.std.proofs.Common.{SFits, w32, to_z-of_z, rules}
use Rattle.headings.specs.Headings.{kind_of}
use Rattle.headings.specs.Laws.Bodies.{signed_corrections}
use Rattle.read_values.specs.Laws.Values.{correction_formed, correction_none}
use Rattle.read_values.proofs.signed.I32FromWord.formed.Goals as goal

pub returns-then-is_none : goal.returns-then-is_none
returns-then-is_none c = correction_none c.args._before (signed_corrections (kind_of c.args._kind) c.requires.0) c.if-is_none.true

pub returns : goal.returns
returns c =
    let fits : SFits w32 c.halved.result = search rules in
    rw (to_z-of_z fits) (correction_formed c.args._before (signed_corrections (kind_of c.args._kind) c.requires.0) c.halved.ensures.0 c.halved.ensures.1)
