-- Two answers that satisfy the contract of a heading's reader are equal.
use Rattle.std.specs.Prelude.{◌≡◌, Result, Ok, Err, Bool, List, ℕ, length}
use Rattle.std.proofs.Common.{ap, ◌∙◌, append_assoc}
use Rattle.layout.specs.Layout.{Takes}
use Rattle.layout.specs.Sound.{Sound}
use Rattle.layout.proofs.Laws.Sound.{fixed_sound, known_sound, bind_sound, only_sound}
use Rattle.format.specs.Kinds as Kinds
use Rattle.format.specs.Records as Records
use Rattle.format.specs.Records.{Asked, code_field}
use Rattle.format.specs.Reading.{NoEnd}
use Rattle.format.proofs.Laws.Kinds.{kind_one}
use Rattle.format.proofs.Laws.Records.{code_one, parameter_sound, count_sound}
use Rattle.bits.specs.Cursor.{Within, left}
use Rattle.bits.specs.declared.Cursor.{Cursor}
use Rattle.headings.specs.Laws.Same.{heading_one}
use Rattle.headings.specs.declared.Heading.{Heading}
use Rattle.reading.specs.Laws.Steps.{no_taken, taken_one}
use Rattle.reading.specs.Laws.Same.{refusal_one}
use Rattle.reading.specs.declared.Refused.{Refused}
use Rattle.read_headings.specs.Told as Told
use Rattle.read_headings.specs.Told.{Ended, heading_for, Headed, ToldHeading}
use Rattle.read_headings.specs.Laws.Fields.{ended_zero, code_no_end}
use Rattle.read_headings.specs.declared.Begun.{Begun}
use Rattle.read_headings.specs.declared.Begun.TheVariants as OfBegun

-- no heading is the beginning of another, and every list of bits has one answer at most
pub heading_sound : (q : Asked) → Sound (heading_for q)
unfolding heading_for
heading_sound q =
    bind_sound (only_sound (fixed_sound 4) (λ b c h l e. code_one b c e)) (λ x hx.
    bind_sound (only_sound (fixed_sound 2) (λ b c h l e. kind_one b c e)) (λ t ht.
    bind_sound (parameter_sound x) (λ k hk.
    bind_sound (count_sound q.room) (λ n hn. known_sound tt))))

-- and no heading is an end mark
pub heading_no_end : (q : Asked) {w r : List Bool} {a : Records.Code × (Kinds.Kind × (ℕ × (ℕ × Unit {0})))} → Takes (heading_for q) w a r → NoEnd w
unfolding heading_for
heading_no_end q {a = a} t = code_no_end {x = a.0} (record { valid = t.valid.0; front = t.front ∙ append_assoc (code_field.bits a.0) _ _ })

pub headed_no_end : {q : Asked} {s : List ℕ} {c : Cursor} {h : Heading} {n : ℕ} {d : Cursor} → Headed q s c h n d → NoEnd (left c s)
headed_no_end {q} k = heading_no_end q k.taken.takes

ended_one : {s : List ℕ} {c d e : Cursor} → Ended s c d → Ended s c e → d ≡ e
ended_one t u = (taken_one (fixed_sound 4) (ended_zero t) (ended_zero u)).1

module _ {q : Asked} {s : List ℕ} {c : Cursor} where
  headed_one : {h g : Heading} {n m : ℕ} {d e : Cursor} → Headed q s c h n d → Headed q s c g m e → OfBegun.Body h n d ≡ OfBegun.Body g m e
  headed_one {h} {g} {n} {m} {d} {e} t u =
      let (v, f) = taken_one (heading_sound q) t.taken u.taken in
      let i : h ≡ g = heading_one h g (ap (λ (z : _). z.0) v) (ap (λ (z : _). z.1.1.0) v) (ap (λ (z : _). z.1.0) v) in
      let j : n ≡ m = ap (λ (z : _). z.1.1.1.0) v in
      cc

  -- one answer, cursor and bit included
  pub heading_same : {r t : Result Begun Refused} → Within c (length s) → ToldHeading q s c r → ToldHeading q s c t → r ≡ t
  heading_same w (Told.begins t) (Told.begins u) = ap Ok (headed_one t u)
  heading_same w (Told.begins t) (Told.ends u) = absurd (heading_no_end q t.taken.takes _ u.mark)
  heading_same w (Told.begins t) (Told.no u) = absurd (no_taken (heading_sound q) u.heading t.taken)
  heading_same w (Told.ends t) (Told.begins u) = absurd (heading_no_end q u.taken.takes _ t.mark)
  heading_same w (Told.ends t) (Told.ends u) = ap (λ (d : Cursor). Ok (OfBegun.End d)) (ended_one t u)
  heading_same w (Told.ends t) (Told.no u) = absurd (u.mark _ t.mark)
  heading_same w (Told.no t) (Told.begins u) = absurd (no_taken (heading_sound q) t.heading u.taken)
  heading_same w (Told.no t) (Told.ends u) = absurd (t.mark _ u.mark)
  heading_same w (Told.no t) (Told.no u) = ap Err (refusal_one (heading_sound q) w t.heading u.heading)
