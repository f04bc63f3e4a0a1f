use Rattle.std.proofs.Common.{arith}
use Rattle.lines.specs.Laws.Stands.{stands_text, refusal_stands}
use Rattle.lines.proofs.refusal.Goals as goal

pub returns-clause-stands : goal.returns-clause-stands
returns-clause-stands c =
    let word = c.append-after_word.ensures in
    refusal_stands (stands_text word.value word.out_after) c.values.ensures.stands (omega (arith, word.value, c.requires))
