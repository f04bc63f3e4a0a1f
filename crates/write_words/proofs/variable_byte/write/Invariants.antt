use Rattle.format.specs.Codes.{groups}
use Rattle.pen.specs.Pen.{Begun}
use Rattle.write_words.proofs.variable_byte.write.Given as goal

abbrev pub invariant-loop-later : goal.invariant-loop-later
invariant-loop-later l = Begun (groups l.initial.later l.w) (groups l.later l.w) l.initial.buf l.initial.next l.buf l.next
