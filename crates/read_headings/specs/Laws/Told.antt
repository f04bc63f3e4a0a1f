-- An answer that is known.
use Rattle.std.specs.Prelude.{◌≡◌, Some, None, Result, Ok, Err, IsErrAnd, List, ℕ}
use Rattle.std.proofs.Common.{ap, ◌∙◌}
use Rattle.std.proofs.lemmas.Result.{err_from_is_err_and}
use Rattle.format.specs.Records as Records
use Rattle.format.specs.Records.{Asked, code_field, kind_field, parameter_field}
use Rattle.format.specs.Reading.{NoEnd}
use Rattle.layout.specs.Layout.{fixed}
use Rattle.bits.specs.Cursor.{left, Taken, Refuses, ToldField, cut}
use Rattle.bits.specs.declared.Cursor.{Cursor}
use Rattle.headings.specs.Headings.{code_of, kind_of}
use Rattle.headings.specs.declared.Code.{Code}
use Rattle.headings.specs.declared.Kind.{Kind}
use Rattle.headings.specs.declared.Heading.{Heading}
use Rattle.reading.specs.Refusals.{refusal_number}
use Rattle.reading.specs.declared.Refused.{Refused}
use Rattle.read_headings.specs.Told as Told
use Rattle.read_headings.specs.Told.{Ended, Headed, NoHeading, ToldHeading}
use Rattle.read_headings.specs.Fields as Fields
use Rattle.read_headings.specs.Fields.{ToldCodeField, ToldKindField, CodeWith, ToldParameterField}
use Rattle.read_headings.specs.declared.Begun.TheVariants as OfBegun

-- ---- of the heading

module _ {q : Asked} {s : List ℕ} {c : Cursor} where
  -- a body follows: its heading has been read
  pub was_body : {h : Heading} {n : ℕ} {d : Cursor} → ToldHeading q s c (Ok (OfBegun.Body h n d)) → Headed q s c h n d
  was_body (Told.begins t) = t

  -- an end mark stands there
  pub was_end : {d : Cursor} → ToldHeading q s c (Ok (OfBegun.End d)) → Ended s c d
  was_end (Told.ends t) = t

  -- neither stands there
  pub was_no : {r : Refused} → ToldHeading q s c (Err r) → NoHeading q s c r.why r.at
  was_no (Told.no t) = t

-- ---- of each field

module _ {s : List ℕ} {c : Cursor} where
  -- too few bits are left for a field of this width
  pub field_cut : {width : ℕ} → ToldField width s c None → Refuses (fixed width) s c 6 c.at
  field_cut (cut k) = k

  pub was_code : {x : Code} {d : Cursor} → ToldCodeField s c (Ok (Some x, d)) → Taken code_field s c (code_of x) d
  was_code (Fields.is t) = t

  pub was_mark : {d : Cursor} → ToldCodeField s c (Ok (None, d)) → Ended s c d
  was_mark (Fields.ends t) = t

  pub was_no_code : {r : Refused} → ToldCodeField s c (Err r) → NoEnd (left c s) × Refuses code_field s c (refusal_number r.why) r.at
  was_no_code (Fields.no o k) = (o, k)

  module _ {w : Records.Wanted} {x : Records.Code} where
    pub was_kind : {t : Kind} {d : Cursor} → ToldKindField w x s c (Ok (t, d)) → Taken (kind_field w x) s c (kind_of t) d
    was_kind (Fields.is t) = t

    pub was_no_kind : {r : Refused} → ToldKindField w x s c (Err r) → Refuses (kind_field w x) s c (refusal_number r.why) r.at
    was_no_kind (Fields.no k) = k

  module _ {x : Code} where
    pub was_parameter : {y : Code} {d : Cursor} → ToldParameterField x s c (Ok (y, d)) → CodeWith x s c y d
    was_parameter (Fields.is t) = t

    pub was_no_parameter : {r : Refused} → ToldParameterField x s c (Err r) → Refuses (parameter_field (code_of x)) s c (refusal_number r.why) r.at
    was_no_parameter (Fields.cut k) = k
