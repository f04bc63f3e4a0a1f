use Rattle.headings.specs.declared.bodies.Words.TheVariants.{Gamma, Delta, Rice, VariableByte}
use Rattle.headings.specs.Laws.Bodies.{rice_of}
use Rattle.read_any_word.specs.Laws.Words.{told_by}
use Rattle.read_any_word.proofs.word.Goals as goal

pub returns-in-Gamma : goal.returns-in-Gamma
returns-in-Gamma c = told_by c.args.code Gamma c.in-Gamma.is c.read.ensures

pub returns-in-Delta : goal.returns-in-Delta
returns-in-Delta c = told_by c.args.code Delta c.in-Delta.is c.read-in-Delta.ensures

pub returns-in-Rice : goal.returns-in-Rice
returns-in-Rice c = told_by c.args.code (Rice c.get.result) (rice_of c.in-Rice.is c.get.ensures.0) c.read-in-Rice.ensures

pub returns-in-VariableByte : goal.returns-in-VariableByte
returns-in-VariableByte c = told_by c.args.code VariableByte c.in-VariableByte.is c.read-in-VariableByte.ensures
