-- An answer that is known.
use Rattle.std.specs.Prelude.{Ok, Err, Bool, List, ℕ, ℤ}
use Rattle.layout.specs.Layout.{word}
use Rattle.format.specs.Codes.{Word}
use Rattle.format.specs.Kinds.{Kind}
use Rattle.bits.specs.Cursor.{Taken, Refuses}
use Rattle.bits.specs.declared.Cursor.{Cursor}
use Rattle.reading.specs.Refusals.{refusal_number}
use Rattle.reading.specs.declared.Refused.{Refused}
use Rattle.read_values.specs.Told as Told
use Rattle.read_values.specs.Told.{value_by, ToldAnyWord, ToldValue}

module _ {image : ℕ → List Bool} {s : List ℕ} {c : Cursor} where
  pub word_was : {w : ℕ} {d : Cursor} → ToldAnyWord image s c (Ok (w, d)) → Taken (word Word image) s c w d
  word_was (Told.is k) = k

  pub word_was_none : {r : Refused} → ToldAnyWord image s c (Err r) → Refuses (word Word image) s c (refusal_number r.why) r.at
  word_was_none (Told.no k) = k

module _ {T : Type 0} {number : T → ℤ} {image : ℕ → List Bool} {t : Kind} {p : ℤ} {s : List ℕ} {c : Cursor} where
  pub value_was : {v : T} {d : Cursor} → ToldValue number image t p s c (Ok (v, d)) → Taken (value_by image t p) s c (number v) d
  value_was (Told.is k) = k

  pub value_was_none : {r : Refused} → ToldValue number image t p s c (Err r) → Refuses (value_by image t p) s c (refusal_number r.why) r.at
  value_was_none (Told.no k) = k
