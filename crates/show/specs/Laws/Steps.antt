-- A line that was gathered is the one of what was found.
use Rattle.std.specs.Prelude.{◌≡◌, Option, Some, None, Ok, Err, Bool, List, map, ℕ, ◌+◌, ◌-◌, ◌*◌, ◌≤◌, ◌<◌, ℤ, length, take}
use Rattle.std.proofs.Common.{sym, subst, subst₂, arith}
use Rattle.std.proofs.lemmas.List.{take-map}
use Rattle.format.specs.Limits.{longest_buffer, longest_list}
use Rattle.format.specs.Kinds.{Kind}
use Rattle.format.specs.Answers.{refuses}
use Rattle.format.specs.Reading as Reading
use Rattle.format.specs.Reading.{Check, Checks}
use Rattle.bits.specs.declared.BitPos.{BitPos}
use Rattle.headings.specs.Headings.{kind_of, headed}
use Rattle.headings.specs.declared.Heading.{Heading}
use Rattle.lines.specs.Text.{RecordLine, EndLine, RefusalLine, Stands}
use Rattle.lines.specs.Laws.Stands.{stands_first}
use Rattle.reading.specs.declared.Refused.{Refused}
use Rattle.read_records.specs.declared.Found.TheVariants.{Record, End}
use Rattle.show.specs.Next.{Next, GoesOn}
use Rattle.show.specs.Laws.Next.{goes_first}
use Rattle.show.specs.declared.records.Line.{Line}
use Rattle.show.specs.Steps as Steps
use Rattle.show.specs.Steps.{Gathered, Begins, Steps}

pub gathered : {Text : List ℕ → Type 0} {old new : List ℕ} {n : ℕ} → Stands Text old 0 new n → n ≤ length new → Gathered Text new n
gathered s h = record { inside = h; is = stands_first s }

pub take_map : {A : Type 0} (f : A → ℤ) (n : ℕ) (l : List A) → map f (take n l) ≡ take n (map f l)
take_map f n l = sym (take-map f n l)

-- a record's line, of its values by another name
pub gathered_record : (h : Heading) {vs ws : List ℤ} {old new : List ℕ} {n : ℕ} → vs ≡ ws → Stands (RecordLine (headed h vs)) old 0 new n → n ≤ length new → Gathered (RecordLine (headed h ws)) new n
gathered_record h {new = new} {n = n} e s inside = subst (λ (ws : List ℤ). Gathered (RecordLine (headed h ws)) new n) e (gathered s inside)

-- ---- the line of what stands next

module _ {bytes : List ℕ} {at : ℕ} {lists : Kind → List ℤ} where
  pub few : {h : Heading} {n : ℕ} {p : BitPos} → Next bytes at lists (Ok (Record h n p)) → n ≤ longest_list
  few (Next.listed t short on more) = short

  pub one_more : {h : Heading} {n : ℕ} {p : BitPos} {out : List ℕ} {b : ℕ}
      → Next bytes at lists (Ok (Record h n p)) → Gathered (RecordLine (headed h (take n (lists (kind_of h.kind))))) out b → Steps bytes at out (record { bytes = b; next = Some p })
  one_more (Next.listed t short on more) g = Steps.more _ t g on more

  pub at_end : {p : BitPos} {out : List ℕ} {b : ℕ} → Next bytes at lists (Ok (End p)) → Gathered EndLine out b → Steps bytes at out (record { bytes = b; next = None })
  at_end (Next.ended rest e after) g = Steps.last rest e g

  pub no_refusal : {r : Refused} → Next bytes at lists (Err r) → ⊥
  no_refusal n = elim n [ ]

-- ---- the line of a refusal

-- what the check tells, of the numbers that the line was made of
pub refused_as : {bytes old out : List ℕ} {answer bit a b n : ℕ} → Checks bytes (refuses answer bit) → a ≡ answer → b ≡ bit → Stands (RefusalLine a b) old 0 out n → n ≤ length out
    → Begins bytes out (Err n)
refused_as {out = out} {answer = answer} {bit = bit} {n = n} c e f s inside = Steps.refused answer bit c (subst₂ (λ (x y : ℕ). Gathered (RefusalLine x y) out n) e f (gathered s inside))

-- the bit that is told with a refusal is one of the buffer, or the one after it
pub refused_inside : {bytes : List ℕ} {answer bit : ℕ} → Checks bytes (refuses answer bit) → bit ≤ 8 * longest_buffer
refused_inside {answer = answer} {bit = bit} (Reading.outside long) = omega arith
refused_inside {bytes} {answer} {bit} (Reading.checked small check) = go check
  where
    go : {w : List Bool} {records values : ℕ} → Check (8 * length bytes) (refuses answer bit) w records values → bit ≤ 8 * longest_buffer
    go (Reading.fails u m n e) = let b : bit ≡ 8 * length bytes - length u = cc in omega arith
    go (Reading.unclean {r = r} m p e) = let b : bit ≡ 8 * length bytes - length r = cc in omega arith
    go (Reading.ends m p e) = let z : ◌≡◌ {A = ℕ} 0 1 = cc in absurd (omega arith)
    go (Reading.goes_on t more) = go more

-- ---- what an answer tells

pub begun_stream : {bytes out : List ℕ} → Begins bytes out (Ok tt) → GoesOn bytes 0
begun_stream {bytes} (Steps.checked told c) = goes_first bytes told c

pub begun_refused : {bytes out : List ℕ} {n : ℕ} → Begins bytes out (Err n) → n ≤ length out
begun_refused (Steps.refused answer bit c g) = g.inside

module _ {bytes : List ℕ} {at : ℕ} {out : List ℕ} where
  pub goes_more : {n : ℕ} {p : BitPos} → Steps bytes at out (record { bytes = n; next = Some p }) → (n ≤ length out) × (at < p.0) × GoesOn bytes p.0
  goes_more (Steps.more r t g on more) = (g.inside, on, more)

  pub goes_last : {n : ℕ} → Steps bytes at out (record { bytes = n; next = None }) → n ≤ length out
  goes_last (Steps.last rest e g) = g.inside

-- ---- from line to line

-- the stream goes on where the next line's record begins, if there is a next one
abbrev pub Onward : List ℕ → Option BitPos → Type 0
Onward bytes (Some p) = GoesOn bytes p.0
Onward bytes None = Unit {0}

-- how many bits are left there, and one more: none after the last line
abbrev pub bits_left : List ℕ → Option BitPos → ℕ
bits_left bytes (Some p) = 8 * length bytes - p.0 + 1
bits_left bytes None = 0

pub onward : {bytes out : List ℕ} {at : BitPos} {r : Line} → Steps bytes at.0 out r → Onward bytes r.next × (bits_left bytes r.next < bits_left bytes (Some at))
onward (Steps.more r t g on more) = (more, omega (arith, more.inside))
onward (Steps.last rest e g) = (tt, omega arith)
