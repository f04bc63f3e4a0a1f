-- A reader's answer as the numbers that a C program gets.
use Rattle.std.specs.Prelude.{Result, Ok, Err, ◌≤◌}
use Rattle.format.specs.Limits.{longest_list}
use Rattle.format.specs.Kinds.{kind_number}
use Rattle.format.specs.Records.{code_number}
use Rattle.headings.specs.Headings.{code_of, carried, kind_of}
use Rattle.reading.specs.Refusals.{refusal_number}
use Rattle.reading.specs.declared.Refused.{Refused}
use Rattle.read_records.specs.declared.Found.{Found}
use Rattle.read_records.specs.declared.Found.TheVariants as OfFound
use Rattle.flat_answers.specs.declared.Record.{Record}

-- a record has no more values than a list may have
abbrev pub FewValues : Result Found Refused → Type 0
FewValues (Ok (OfFound.Record h n p)) = n ≤ longest_list
FewValues (Ok (OfFound.End p)) = Unit {0}
FewValues (Err r) = Unit {0}

abbrev pub flat_read : Result Found Refused → Record
flat_read (Ok (OfFound.Record h n p)) = record { answer = 0; told = p.0; end = 0; code = code_number (code_of h.code); kind = kind_number (kind_of h.kind); parameter = carried h.code; count = n }
flat_read (Ok (OfFound.End p)) = record { answer = 0; told = p.0; end = 1; code = 0; kind = 0; parameter = 0; count = 0 }
flat_read (Err r) = record { answer = refusal_number r.why; told = r.at.0; end = 0; code = 0; kind = 0; parameter = 0; count = 0 }
