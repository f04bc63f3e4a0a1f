use Rattle.std.proofs.Common.{pos}
use Rattle.read_values.specs.Laws.Values.{plain_formed, instant_formed, instant_beyond}
use Rattle.read_values.proofs.unsigned.U32FromWord.formed.Goals as goal

pub returns-then-beyond : goal.returns-then-beyond
returns-then-beyond c = instant_beyond c.args.before (c.if-instants.ensures.instants_if c.requires.0) c.if-beyond.true

pub returns-then-instants : goal.returns-then-instants
returns-then-instants c = instant_formed c.args.before (c.if-instants.ensures.instants_if c.requires.0) c.requires.1.0 c.if-beyond.false

pub returns : goal.returns
returns c = plain_formed (pos c.args.before) (c.if-instants.ensures.instants_if c.requires.0) c.requires.1
