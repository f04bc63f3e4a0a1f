-- A reader's answer flattened is that of its outcome: a record's count is that of its values.
use Rattle.std.specs.Prelude.{◌≡◌, refl, Result, Ok, Err, List, ℕ, ℤ}
use Rattle.std.proofs.Common.{sym, ap, length-take-le}
use Rattle.format.specs.Kinds.{kind_number}
use Rattle.format.specs.Records.{code_number}
use Rattle.headings.specs.Headings.{code_of, carried, kind_of}
use Rattle.reading.specs.declared.Refused.{Refused}
use Rattle.read_records.specs.Told.{item_of, Counted}
use Rattle.read_records.specs.declared.Found.{Found}
use Rattle.read_records.specs.declared.Found.TheVariants as OfFound
use Rattle.flat_answers.specs.Flat.{flat_record}
use Rattle.flat_answers.specs.Reads.{flat_read}

pub flat_item : (r : Result Found Refused) (new : List ℤ) → Counted r new → flat_read r ≡ flat_record (item_of r new)
flat_item (Ok (OfFound.Record h n p)) new k =
    ap (λ (m : ℕ). record { answer = 0; told = p.0; end = 0; code = code_number (code_of h.code); kind = kind_number (kind_of h.kind); parameter = carried h.code; count = m }) (sym (length-take-le n new k))
flat_item (Ok (OfFound.End p)) new k = refl
flat_item (Err r) new k = refl
