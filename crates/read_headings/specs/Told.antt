-- What the reader of a heading tells.
use Rattle.std.specs.Prelude.{◌≡◌, Option, Result, Ok, Err, List, ◌++◌, ℕ, ◌≤◌, ℤ, length}
use Rattle.layout.specs.Layout.{Layout, known, bind}
use Rattle.format.specs.Limits.{longest_list, largest_parameter}
use Rattle.format.specs.Kinds as Kinds
use Rattle.format.specs.Records as Records
use Rattle.format.specs.Records.{Wants, Asked, code_field, kind_field, parameter_field, count_field, body, record_for}
use Rattle.format.specs.Streams.{end_mark}
use Rattle.format.specs.Reading.{NoEnd}
use Rattle.bits.specs.Cursor.{Within, left, Taken, Refuses}
use Rattle.bits.specs.declared.BitPos.{BitPos}
use Rattle.bits.specs.declared.Cursor.{Cursor}
use Rattle.headings.specs.Headings.{code_of, carried, kind_of, headed}
use Rattle.headings.specs.declared.Heading.{Heading}
use Rattle.headings.specs.declared.Kind.{Kind}
use Rattle.wanted.specs.Wanted.{wanted_of}
use Rattle.reading.specs.Refusals.{refusal_number}
use Rattle.reading.specs.Reached.{Reached}
use Rattle.reading.specs.declared.Refusal.{Refusal}
use Rattle.reading.specs.declared.Refused.{Refused}
use Rattle.read_headings.specs.declared.Begun.{Begun}
use Rattle.read_headings.specs.declared.Begun.TheVariants as OfBegun

-- what is asked for, as document 01's definitions say it
abbrev pub asked : Option Kind → ℕ → Asked
asked w room = record { wanted = wanted_of w; room = room }

-- the body that a heading asks for
abbrev pub body_of : Heading → ℕ → Layout (List ℤ)
body_of h n = body (code_of h.code) (carried h.code) (kind_of h.kind) n

-- a heading that is wanted, with a count for which there is room
pub record Legal (q : Asked) (h : Heading) (n : ℕ) : Type 0 where
  pub wanted : Wants q.wanted (kind_of h.kind)
  pub instants : code_of h.code ≡ Records.Interpolative → kind_of h.kind ≡ Kinds.Instants
  pub parameter : carried h.code ≤ largest_parameter
  pub count : n ≤ longest_list
  pub room : n ≤ q.room

-- "A record is: code number in 4 bits; kind in 2; for Rice k in 5; gamma of (count + 1)", and then what these ask for
abbrev pub heading_then : {B : Type 0} → Asked → (Records.Code → Kinds.Kind → ℕ → ℕ → Layout B) → Layout (Records.Code × (Kinds.Kind × (ℕ × (ℕ × B))))
heading_then q M =
    bind code_field (λ x.
    bind (kind_field q.wanted x) (λ t.
    bind (parameter_field x) (λ k.
    bind (count_field q.room) (λ n.
    M x t k n))))

-- the heading alone, and what its fields hold
unfoldable pub heading_for : Asked → Layout (Records.Code × (Kinds.Kind × (ℕ × (ℕ × Unit {0}))))
heading_for q = heading_then q (λ x t k n. known tt)

abbrev pub held : Heading → ℕ → Records.Code × (Kinds.Kind × (ℕ × (ℕ × Unit {0})))
held h n = (code_of h.code, (kind_of h.kind, (carried h.code, (n, tt))))

-- an end mark stands at c, and d is the cursor after it
pub record Ended (s : List ℕ) (c d : Cursor) : Type 0 where
  pub mark : left c s ≡ end_mark ++ left d s
  pub within : Within d (length s)
  pub stop : d.stop ≡ c.stop

-- the heading h with the count n is what stands at c, and d is the cursor after it; the record has been read as far as its body
pub record Headed (q : Asked) (s : List ℕ) (c : Cursor) (h : Heading) (n : ℕ) (d : Cursor) : Type 0 where
  pub legal : Legal q h n
  pub taken : Taken (heading_for q) s c (held h n) d
  pub reached : Reached (record_for q) s c (body_of h n) (headed h) d

-- neither a heading nor an end mark stands at c, so no record does: the answer is m, at bit p
pub record NoHeading (q : Asked) (s : List ℕ) (c : Cursor) (m : Refusal) (p : BitPos) : Type 0 where
  pub mark : NoEnd (left c s)
  pub heading : Refuses (heading_for q) s c (refusal_number m) p
  pub whole : Refuses (record_for q) s c (refusal_number m) p

-- what stands at c: a heading, an end mark, or neither
pub data ToldHeading (q : Asked) (s : List ℕ) (c : Cursor) : Result Begun Refused → Type 0 where
  begins : {h : Heading} {n : ℕ} {d : Cursor} → Headed q s c h n d → ToldHeading q s c (Ok (OfBegun.Body h n d))
  ends : {d : Cursor} → Ended s c d → ToldHeading q s c (Ok (OfBegun.End d))
  no : {m : Refusal} {p : BitPos} → NoHeading q s c m p → ToldHeading q s c (Err (record { why = m; at = p }))
