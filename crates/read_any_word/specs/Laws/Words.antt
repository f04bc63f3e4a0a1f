-- A word of whichever code of words a list has.
use Rattle.std.specs.Prelude.{◌≡◌, Option, Result, List, ℕ}
use Rattle.std.proofs.Common.{sym, subst}
use Rattle.format.specs.Codes.{Word}
use Rattle.bits.specs.Look.{Looked}
use Rattle.bits.specs.declared.Cursor.{Cursor}
use Rattle.glimpse_words.specs.Glimpsed.{Glimpsed, GlimpsedAt}
use Rattle.glimpse_words.specs.declared.Glimpse.{Glimpse}
use Rattle.read_words.specs.Told.{ToldWord}
use Rattle.read_words.specs.declared.NoWord.{NoWord}
use Rattle.headings.specs.Bodies.{image_by}
use Rattle.headings.specs.declared.bodies.Words.{Words}

-- what is told of a word of one code is told where the code was given as that one
pub told_by : (code given : Words) → code ≡ given → {s : List ℕ} {c : Cursor} {r : Result (ℕ × Cursor) NoWord} → ToldWord Word (image_by given) s c r → ToldWord Word (image_by code) s c r
told_by code given e {s} {c} {r} t = subst (λ (x : Words). ToldWord Word (image_by x) s c r) (sym e) t

pub glimpsed_by : (code given : Words) → code ≡ given → {s : List ℕ} {at n : ℕ} {q : Option Glimpse} → Looked s at n → Glimpsed (image_by given) n q → GlimpsedAt (image_by code) s at q
glimpsed_by code given e {n = n} {q = q} look t = record { n = n; look = look; told = subst (λ (x : Words). Glimpsed (image_by x) n q) (sym e) t }
