-- What the readers of a heading's fields before the count tell; every refusal at the field's first bit.
use Rattle.std.specs.Prelude.{◌≡◌, Option, Some, None, Result, Ok, Err, List, ℕ}
use Rattle.format.specs.Records as Records
use Rattle.format.specs.Records.{code_field, kind_field, parameter_field}
use Rattle.format.specs.Reading.{NoEnd}
use Rattle.bits.specs.Cursor.{left, Taken, Refuses}
use Rattle.bits.specs.declared.Cursor.{Cursor}
use Rattle.headings.specs.Headings.{code_of, carried, kind_of}
use Rattle.headings.specs.declared.Code.{Code}
use Rattle.headings.specs.declared.Kind.{Kind}
use Rattle.reading.specs.Refusals.{refusal_number}
use Rattle.reading.specs.declared.Refusal.{Refusal}
use Rattle.reading.specs.declared.Refusal.TheVariants.{CutShort}
use Rattle.reading.specs.declared.Refused.{Refused}
use Rattle.read_headings.specs.Told.{Ended}

-- a code, which for Rice has no k yet; an end mark in its place; or neither
pub data ToldCodeField (s : List ℕ) (c : Cursor) : Result (Option Code × Cursor) Refused → Type 0 where
  is : {x : Code} {d : Cursor} → Taken code_field s c (code_of x) d → ToldCodeField s c (Ok (Some x, d))
  ends : {d : Cursor} → Ended s c d → ToldCodeField s c (Ok (None, d))
  no : {m : Refusal} → NoEnd (left c s) → Refuses code_field s c (refusal_number m) c.at → ToldCodeField s c (Err (record { why = m; at = c.at }))

-- a kind that is wanted and goes with the code, or why not
pub data ToldKindField (w : Records.Wanted) (x : Records.Code) (s : List ℕ) (c : Cursor) : Result (Kind × Cursor) Refused → Type 0 where
  is : {t : Kind} {d : Cursor} → Taken (kind_field w x) s c (kind_of t) d → ToldKindField w x s c (Ok (t, d))
  no : {m : Refusal} → Refuses (kind_field w x) s c (refusal_number m) c.at → ToldKindField w x s c (Err (record { why = m; at = c.at }))

-- the same code, with the parameter that stands there
pub record CodeWith (x : Code) (s : List ℕ) (c : Cursor) (y : Code) (d : Cursor) : Type 0 where
  pub code : code_of y ≡ code_of x
  pub parameter : Taken (parameter_field (code_of y)) s c (carried y) d

-- the code with its parameter, or that too few bits are left for it
pub data ToldParameterField (x : Code) (s : List ℕ) (c : Cursor) : Result (Code × Cursor) Refused → Type 0 where
  is : {y : Code} {d : Cursor} → CodeWith x s c y d → ToldParameterField x s c (Ok (y, d))
  cut : Refuses (parameter_field (code_of x)) s c 6 c.at → ToldParameterField x s c (Err (record { why = CutShort; at = c.at }))
