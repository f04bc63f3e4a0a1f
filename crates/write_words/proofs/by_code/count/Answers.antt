use Rattle.std.proofs.Common.{arith}
use Rattle.headings.specs.Laws.Bodies.{rice_of}
use Rattle.write_words.specs.Laws.ByCode.{counted}
use Rattle.write_words.proofs.by_code.count.Goals as goal

pub returns-in-Gamma : goal.returns-in-Gamma
returns-in-Gamma c = (counted c.in-Gamma.is _ _ c.count.ensures.0, omega arith)

pub returns-in-Delta : goal.returns-in-Delta
returns-in-Delta c = (counted c.in-Delta.is _ _ c.count-in-Delta.ensures.0, omega arith)

pub returns-in-Rice : goal.returns-in-Rice
returns-in-Rice c = (counted (rice_of c.in-Rice.is c.get.ensures.0) _ _ c.count-in-Rice.ensures.0, omega arith)

pub returns-in-VariableByte : goal.returns-in-VariableByte
returns-in-VariableByte c = (counted c.in-VariableByte.is _ _ c.count-in-VariableByte.ensures.0, omega arith)
