use Rattle.read_headings.specs.Laws.Fields.{parameter_none, parameter_is, parameter_cut}
use Rattle.read_headings.proofs.parameter_field.Goals as goal

pub returns-in_default : goal.returns-in_default
returns-in_default c = parameter_none c.args.code c.in_default.not-Rice c.requires

pub returns-in-Some : goal.returns-in-Some
returns-in-Some c = parameter_is c.in-Rice.is c.in-Some.ensures

pub returns-in-None : goal.returns-in-None
returns-in-None c = rw c.refused.ensures (parameter_cut c.in-Rice.is c.in-None.ensures)
