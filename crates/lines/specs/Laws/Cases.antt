-- Document 01's lines, as it prints them.
use Rattle.std.specs.Prelude.{refl, [], ◌∷◌, ℕ, ◌<◌, pos, negsuc}
use Rattle.std.proofs.Common.{arith}
use Rattle.format.specs.Kinds as Kinds
use Rattle.format.specs.Records as Records
use Rattle.lines.specs.Text.{ascii, digit, one, more, Numeral, plain, minus, none, then, RecordLine, RefusalLine}

-- a number of one digit
short : (n : ℕ) → n < 10 → Numeral (pos n) (digit n ∷ [])
short n h = plain (one h)

-- "fed 14 86 94 00, prints .. `1 1 0 3 5 5 9`"
pub instants_5_5_9 : RecordLine (record { code = Records.Gamma; kind = Kinds.Instants; parameter = 0; values = pos 5 ∷ pos 5 ∷ pos 9 ∷ [] }) (ascii "1 1 0 3 5 5 9\n")
instants_5_5_9 =
    then (short 1 (omega arith)) (then (short 1 (omega arith)) (then (short 0 (omega arith)) (then (short 3 (omega arith))
    (then (short 5 (omega arith)) (then (short 5 (omega arith)) (then (short 9 (omega arith)) none))))))

-- a record without values
pub empty_list : RecordLine (record { code = Records.Gamma; kind = Kinds.Plain; parameter = 0; values = [] }) (ascii "1 0 0 0\n")
empty_list = then (short 1 (omega arith)) (then (short 0 (omega arith)) (then (short 0 (omega arith)) (then (short 0 (omega arith)) none)))

-- "fed 00 01, `refused 11 4`"
pub padding_refused : RefusalLine 11 4 (ascii "refused 11 4\n")
padding_refused = record { numbers = ascii "11 4\n"; are = then (plain (more {n = 11} (omega arith) (one {n = 1} (omega arith)))) (then (short 4 (omega arith)) none); whole = refl }

-- a correction
pub below_zero : Numeral (negsuc 41) (ascii "-42")
below_zero = minus (more {n = 42} (omega arith) (one {n = 4} (omega arith)))
