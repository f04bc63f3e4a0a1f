-- What the readers of one value tell.
use Rattle.std.specs.Prelude.{◌≡◌, Option, Some, None, Result, Ok, Err, Bool, List, ℕ, ℤ}
use Rattle.layout.specs.Layout.{Layout, word, only}
use Rattle.format.specs.Codes.{Word}
use Rattle.format.specs.Kinds.{Kind, Fits, word_of}
use Rattle.bits.specs.Cursor.{Taken, Refuses}
use Rattle.bits.specs.declared.Cursor.{Cursor}
use Rattle.reading.specs.Refusals.{refusal_number}
use Rattle.reading.specs.declared.Refused.{Refused}

-- a word with these bits, or the answer that there is none
pub data ToldAnyWord (image : ℕ → List Bool) (s : List ℕ) (c : Cursor) : Result (ℕ × Cursor) Refused → Type 0 where
  is : {w : ℕ} {d : Cursor} → Taken (word Word image) s c w d → ToldAnyWord image s c (Ok (w, d))
  no : {r : Refused} → Refuses (word Word image) s c (refusal_number r.why) r.at → ToldAnyWord image s c (Err r)

-- the value that a word stands for after p, or that no value of the kind has it
pub data Formed {T : Type 0} (number : T → ℤ) (t : Kind) (p : ℤ) (w : ℕ) : Option T → Type 0 where
  is : {v : T} → Fits t p (number v) → word_of t p (number v) ≡ w → Formed number t p w (Some v)
  none : ((v : ℤ) → Fits t p v → word_of t p v ≡ w → ⊥) → Formed number t p w None

-- a value after p, as `words_by` lays each one out: "10: an instant above 4,294,967,294, or the word 1 in kind 2"
abbrev pub value_by : (ℕ → List Bool) → Kind → ℤ → Layout ℤ
value_by image t p = only 10 (Fits t p) (word_of t p) (word Word image)

pub data ToldValue {T : Type 0} (number : T → ℤ) (image : ℕ → List Bool) (t : Kind) (p : ℤ) (s : List ℕ) (c : Cursor) : Result (T × Cursor) Refused → Type 0 where
  is : {v : T} {d : Cursor} → Taken (value_by image t p) s c (number v) d → ToldValue number image t p s c (Ok (v, d))
  no : {r : Refused} → Refuses (value_by image t p) s c (refusal_number r.why) r.at → ToldValue number image t p s c (Err r)
