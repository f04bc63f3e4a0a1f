use Rattle.headings.specs.declared.bodies.Words.TheVariants.{Gamma, Delta, Rice, VariableByte}
use Rattle.headings.specs.Laws.Bodies.{rice_of}
use Rattle.read_any_word.specs.Laws.Words.{glimpsed_by}
use Rattle.read_any_word.proofs.look.Goals as goal

pub returns-in-Gamma : goal.returns-in-Gamma
returns-in-Gamma c =
    glimpsed_by c.args.code Gamma c.in-Gamma.is c.look-n.ensures c.gamma.ensures

pub returns-in-Delta : goal.returns-in-Delta
returns-in-Delta c =
    glimpsed_by c.args.code Delta c.in-Delta.is c.look-n.ensures c.delta.ensures

pub returns-in-Rice : goal.returns-in-Rice
returns-in-Rice c =
    glimpsed_by c.args.code (Rice c.get.result) (rice_of c.in-Rice.is c.get.ensures.0) c.look-n.ensures c.rice.ensures

pub returns-in-VariableByte : goal.returns-in-VariableByte
returns-in-VariableByte c =
    glimpsed_by c.args.code VariableByte c.in-VariableByte.is c.look-n.ensures c.variable_byte.ensures
