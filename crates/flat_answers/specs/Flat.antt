-- The numbers that a C program gets for an outcome.
use Rattle.std.specs.Prelude.{ℕ, ℤ, pos, length}
use Rattle.format.specs.Kinds.{kind_number, natural}
use Rattle.format.specs.Records.{code_number}
use Rattle.format.specs.Answers.{Outcome, refuses, gives}
use Rattle.format.specs.Reading.{Item, listed, ended}
use Rattle.flat_answers.specs.declared.Written.{Written}
use Rattle.flat_answers.specs.declared.Record.{Record}
use Rattle.flat_answers.specs.declared.Value.{Value}
use Rattle.flat_answers.specs.declared.Correction.{Correction}
use Rattle.flat_answers.specs.declared.Place.{Place}
use Rattle.flat_answers.specs.declared.Stream.{Stream}

abbrev pub flat_written : Outcome ℕ → Written
flat_written (refuses n p) = record { answer = n; told = p }
flat_written (gives p) = record { answer = 0; told = p }

abbrev pub flat_record : Outcome Item → Record
flat_record (refuses n p) = record { answer = n; told = p; end = 0; code = 0; kind = 0; parameter = 0; count = 0 }
flat_record (gives (listed r p)) = record { answer = 0; told = p; end = 0; code = code_number r.code; kind = kind_number r.kind; parameter = r.parameter; count = length r.values }
flat_record (gives (ended p)) = record { answer = 0; told = p; end = 1; code = 0; kind = 0; parameter = 0; count = 0 }

abbrev pub flat_value : Outcome ℤ → Value
flat_value (refuses n p) = record { answer = n; told = p; value = 0 }
flat_value (gives v) = record { answer = 0; told = 0; value = natural v }

abbrev pub flat_correction : Outcome ℤ → Correction
flat_correction (refuses n p) = record { answer = n; told = p; value = pos 0 }
flat_correction (gives v) = record { answer = 0; told = 0; value = v }

abbrev pub flat_place : Outcome ℕ → Place
flat_place (refuses n p) = record { answer = n; told = p; below = 0 }
flat_place (gives n) = record { answer = 0; told = 0; below = n }

abbrev pub flat_stream : Outcome (ℕ × ℕ) → Stream
flat_stream (refuses n p) = record { answer = n; told = p; records = 0; values = 0 }
flat_stream (gives (records, values)) = record { answer = 0; told = 0; records = records; values = values }
