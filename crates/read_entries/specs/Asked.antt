-- What the test of an asked kind tells.
use Rattle.std.specs.Prelude.{Result, Ok, Err, ℕ}
use Rattle.format.specs.Kinds as Kinds
use Rattle.format.specs.Answers.{Told}
use Rattle.headings.specs.Headings.{kind_of}
use Rattle.headings.specs.declared.Kind.{Kind}
use Rattle.reading.specs.declared.Refusal.TheVariants.{Unknown}
use Rattle.reading.specs.declared.Refused.{Refused}

-- "7: asked kind not this entry's (told at 0, right after 12)"
pub data ToldAsked (f : Kinds.Family) (kind : ℕ) : Result Kind Refused → Type 0 where
  is : {t : Kind} → Told f kind (kind_of t) → ToldAsked f kind (Ok t)
  stranger : ((t : Kinds.Kind) → Told f kind t → ⊥) → ToldAsked f kind (Err (record { why = Unknown; at = record { 0 = 0 } }))
