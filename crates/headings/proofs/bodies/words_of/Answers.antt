use Rattle.std.proofs.Common.{rules}
use Rattle.headings.specs.Laws.Bodies.{rice_body}
use Rattle.headings.specs.Bodies.{words, halves}
use Rattle.headings.specs.declared.bodies.Words.TheVariants.{Gamma, Delta, VariableByte}
use Rattle.headings.proofs.bodies.words_of.Goals as goal

pub returns-in-Gamma : goal.returns-in-Gamma
returns-in-Gamma c = words {w = Gamma} tt c.in-Gamma.is

pub returns-in-Delta : goal.returns-in-Delta
returns-in-Delta c = words {w = Delta} tt c.in-Delta.is

pub returns-in-Rice : goal.returns-in-Rice
returns-in-Rice c = search (rules, rice_body)

pub returns-in-VariableByte : goal.returns-in-VariableByte
returns-in-VariableByte c = words {w = VariableByte} tt c.in-VariableByte.is

pub returns-in-Interpolative : goal.returns-in-Interpolative
returns-in-Interpolative c = halves c.in-Interpolative.is
