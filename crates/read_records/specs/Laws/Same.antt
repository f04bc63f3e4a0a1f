-- Two answers that satisfy the contract of a reader of records are equal, and so is the lent list.
use Rattle.std.specs.Prelude.{◌≡◌, Result, List, ℕ, ℤ}
use Rattle.std.proofs.Common.{sym, ap, ◌∙◌}
use Rattle.format.specs.Kinds.{Kind}
use Rattle.format.specs.Reading.{filled}
use Rattle.format.proofs.Laws.Reading.{reader_one}
use Rattle.bits.specs.declared.Cursor.{Cursor}
use Rattle.read_records.specs.Told.{ToldRead}
use Rattle.read_records.specs.Laws.Answers.{item_same}
use Rattle.reading.specs.declared.Refused.{Refused}
use Rattle.read_records.specs.declared.Found.{Found}

pub read_same : {t : Kind} {s : List ℕ} {c : Cursor} {old new new' : List ℤ} {r q : Result Found Refused} → ToldRead t s c old new r → ToldRead t s c old new' q → (r ≡ q) × (new ≡ new')
read_same {old = old} {new = new} {new' = new'} {r = r} {q = q} x y =
    let e = reader_one x.fields y.fields in
    (item_same r q new new' x.counted y.counted e, x.list ∙ ap (filled old) e ∙ sym y.list)
