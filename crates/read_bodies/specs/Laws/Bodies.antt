-- The body after a heading, by the way in which its code lays a list out.
use Rattle.std.specs.Prelude.{◌≡◌, Result, List, ℕ, ℤ, length}
use Rattle.std.proofs.Common.{sym, ap, ◌∙◌, subst}
use Rattle.layout.specs.Layout.{Layout}
use Rattle.format.specs.Kinds as Kinds
use Rattle.format.specs.Kinds.{Kind, Family, Unsigned, family_of}
use Rattle.format.specs.Records as Records
use Rattle.format.specs.Records.{Asked, This, words_by, body}
use Rattle.format.proofs.Laws.Bodies.{body_list}
use Rattle.bits.specs.Cursor.{Taken}
use Rattle.bits.specs.declared.Cursor.{Cursor}
use Rattle.headings.specs.Headings.{code_of, carried, kind_of}
use Rattle.headings.specs.Bodies.{image_by, code_for}
use Rattle.headings.specs.Laws.Bodies.{words_body}
use Rattle.headings.specs.declared.Code.{Code}
use Rattle.headings.specs.declared.Code.TheVariants.{Interpolative}
use Rattle.headings.specs.declared.Heading.{Heading}
use Rattle.headings.specs.declared.bodies.Words.{Words}
use Rattle.reading.specs.Judging.{ToldJudged, ToldKept}
use Rattle.reading.specs.declared.Judged.{Judged}
use Rattle.reading.specs.declared.Refused.{Refused}
use Rattle.read_headings.specs.Told.{body_of, Legal, Headed}
use Rattle.read_bodies.specs.Bodies.{HeadingFor}

-- ---- word by word, or by halves

pub by_words : (h : Heading) (n : ℕ) (w : Words) → h.code ≡ code_for w → body_of h n ≡ words_by (image_by w) (kind_of h.kind) n
by_words h n w e = words_body w h.code e (kind_of h.kind) n

pub by_halves : (h : Heading) (n : ℕ) → h.code ≡ Interpolative → body_of h n ≡ body Records.Interpolative 0 Kinds.Instants n
by_halves h n e = ap (λ (c : Code). body (code_of c) (carried c) (kind_of h.kind) n) e

-- code 5 is for "instants only", which are not signed
pub halves_unsigned : {f : Family} (h : Heading) → HeadingFor f h → h.code ≡ Interpolative → f ≡ Unsigned
halves_unsigned h f e = sym f.family ∙ ap family_of (f.fine.instants (ap code_of e))

-- ---- what is said of one layout is said of another that is the same

module _ {L M : Layout (List ℤ)} (e : L ≡ M) {s : List ℕ} {c : Cursor} where
  pub judged_as : {T : Type 0} {number : T → ℤ} {place sought : ℕ} {r : Result (Judged T) Refused} → ToldJudged number M place sought s c r → ToldJudged number L place sought s c r
  judged_as {number = number} {place} {sought} {r} h = subst (λ (N : Layout (List ℤ)). ToldJudged number N place sought s c r) (sym e) h

  pub kept_as : {n : ℕ} {old new : List ℤ} {r : Result Cursor Refused} → ToldKept M n s c old new r → ToldKept L n s c old new r
  kept_as {n} {old} {new} {r} h = subst (λ (N : Layout (List ℤ)). ToldKept N n s c old new r) (sym e) h

-- ---- after a heading that was read

-- as many values as the heading's count says
pub counted_values : {q : Asked} {h : Heading} {n : ℕ} → Legal q h n → {s : List ℕ} {c d : Cursor} {vs : List ℤ} → Taken (body_of h n) s c vs d → length vs ≡ n
counted_values {h = h} {n = n} l {vs = vs} t = (body_list (code_of h.code) (carried h.code) (kind_of h.kind) n vs l.instants t.takes.valid).0

-- ---- after a heading of the kind that was asked for

pub headed_for : {t : Kind} {room : ℕ} {s : List ℕ} {c : Cursor} {h : Heading} {n : ℕ} {d : Cursor} → Headed (record { wanted = This t; room = room }) s c h n d → HeadingFor (family_of t) h
headed_for k = record { fine = record { parameter = k.legal.parameter; instants = k.legal.instants }; family = ap family_of k.legal.wanted }

-- of a family that is known otherwise
pub for_family : {f g : Family} {h : Heading} → HeadingFor f h → f ≡ g → HeadingFor g h
for_family {h = h} k e = record { fine = k.fine; family = k.family ∙ e }
