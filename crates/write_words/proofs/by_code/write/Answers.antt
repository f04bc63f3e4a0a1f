use Rattle.headings.specs.Laws.Bodies.{rice_of}
use Rattle.write_words.specs.Laws.ByCode.{room, drew}
use Rattle.write_words.proofs.by_code.write.Goals as goal

pub write-requires : goal.write-requires
write-requires c = (c.requires.0, room c.in-Gamma.is _ c.requires.1)

pub write-requires-in-Delta : goal.write-requires-in-Delta
write-requires-in-Delta c = (c.requires.0, room c.in-Delta.is _ c.requires.1)

pub write-requires-in-Rice : goal.write-requires-in-Rice
write-requires-in-Rice c =
    (c.requires.0, room (rice_of c.in-Rice.is c.get.ensures.0) _ c.requires.1, c.get.ensures.1)

pub write-requires-in-VariableByte : goal.write-requires-in-VariableByte
write-requires-in-VariableByte c = (c.requires.0, room c.in-VariableByte.is _ c.requires.1)

pub returns-in-Gamma : goal.returns-in-Gamma
returns-in-Gamma c = drew c.in-Gamma.is _ c.write.ensures

pub returns-in-Delta : goal.returns-in-Delta
returns-in-Delta c = drew c.in-Delta.is _ c.write-in-Delta.ensures

pub returns-in-Rice : goal.returns-in-Rice
returns-in-Rice c = drew (rice_of c.in-Rice.is c.get.ensures.0) _ c.write-in-Rice.ensures

pub returns-in-VariableByte : goal.returns-in-VariableByte
returns-in-VariableByte c = drew c.in-VariableByte.is _ c.write-in-VariableByte.ensures
