use Rattle.read_headings.specs.Laws.Fields.{code_ends, code_is, code_unknown, code_cut}
use Rattle.read_headings.proofs.code_field.Goals as goal

pub returns-in_default : goal.returns-in_default
returns-in_default c = rw c.refused.ensures (code_cut c.in_default.ensures)

pub returns-then-v-eq0 : goal.returns-then-v-eq0
returns-then-v-eq0 c = code_ends c.in-Some.ensures c.if-v-eq0.true

pub returns-in-Some-code_of : goal.returns-in-Some-code_of
returns-in-Some-code_of c = code_is c.in-Some.ensures c.in-Some-code_of.ensures

pub returns-in-None : goal.returns-in-None
returns-in-None c = rw c.refused-in-None.ensures (code_unknown c.in-Some.ensures c.requires c.if-v-eq0.false c.in-None.ensures)
