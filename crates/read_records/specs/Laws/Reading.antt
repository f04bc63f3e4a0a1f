-- What was read at a cursor, as document 01 tells it of the bits between start and stop.
use Rattle.std.specs.Prelude.{◌≡◌, refl, Result, Ok, Err, List, ◌++◌, ℕ, ◌≤◌, ℤ, length, take, drop}
use Rattle.std.proofs.Common.{sym, ap, ◌∙◌, subst, arith, length-append, take_at}
use Rattle.format.specs.Kinds.{Kind}
use Rattle.format.specs.Records.{Record, Asked, This, record_for}
use Rattle.format.specs.Answers.{refuses, gives}
use Rattle.format.specs.Reading as Reading
use Rattle.format.specs.Reading.{NoEnd, listed, Reader}
use Rattle.bits.specs.Cursor.{Within, left, to, Taken, Refuses}
use Rattle.bits.specs.declared.BitPos.{BitPos}
use Rattle.bits.specs.declared.Cursor.{Cursor}
use Rattle.headings.specs.Headings.{headed}
use Rattle.headings.specs.declared.Heading.{Heading}
use Rattle.reading.specs.Refusals.{refusal_number}
use Rattle.reading.specs.Laws.Steps.{told_at, at_bit}
use Rattle.reading.specs.declared.Refused.{Refused}
use Rattle.read_headings.specs.Told.{Ended, Headed}
use Rattle.read_headings.specs.Laws.Same.{headed_no_end}
use Rattle.read_bodies.specs.Laws.Bodies.{counted_values}
use Rattle.read_records.specs.Told as Told
use Rattle.read_records.specs.Told.{ToldRead, ToldListed}
use Rattle.read_records.specs.declared.Found.{Found}
use Rattle.read_records.specs.declared.Found.TheVariants as OfFound

module _ {q : Asked} {s : List ℕ} {c : Cursor} (w : Within c (length s)) where
  pub reads_list : {a : Record} {d : Cursor} → Taken (record_for q) s c a d → Reader q c.stop.0 (left c s) (gives (listed a d.at.0))
  reads_list {d = d} t = Reading.lists t.takes (at_bit s c d t.within t.stop)

  pub reads_no : {n : ℕ} {p : BitPos} → NoEnd (left c s) → Refuses (record_for q) s c n p → Reader q c.stop.0 (left c s) (refuses n p.0)
  reads_no {p = p} m r = Reading.fails (left (to c p) s) m r.no (told_at s c p w r.upto)

-- ---- the reader

-- a list in front of the lent one, as a record's values
fronted : (vs old new : List ℤ) (n : ℕ) → length vs ≡ n → new ≡ vs ++ drop (length vs) old → (take n new ≡ vs) × (n ≤ length new)
fronted vs old new n e f =
    let l = ap length f ∙ length-append vs (drop (length vs) old) in
    (ap (take n) f ∙ take_at vs (drop (length vs) old) n e, omega arith)

-- what the reader of a kind into a lent list asks for
abbrev pub asked_into : Kind → List ℤ → Asked
asked_into t old = record { wanted = This t; room = length old }

module _ (t : Kind) {s : List ℕ} {c : Cursor} (old : List ℤ) (w : Within c (length s)) where
  pub read_end : {d : Cursor} {p : BitPos} → Ended s c d → p ≡ d.at → ToldRead t s c old old (Ok (OfFound.End p))
  read_end {d} {p} e f = record { fields = Reading.ends e.mark (ap (λ (q : BitPos). q.0) f ∙ at_bit s c d e.within e.stop); list = refl; counted = tt }

  pub read_no : {r : Refused} → NoEnd (left c s) → Refuses (record_for (asked_into t old)) s c (refusal_number r.why) r.at → ToldRead t s c old old (Err r)
  read_no k r = record { fields = reads_no w k r; list = refl; counted = tt }

  pub read_listed : {h : Heading} {n : ℕ} {d : Cursor} {new : List ℤ} {r : Result Found Refused} → Headed (asked_into t old) s c h n d
      → ToldListed h n s d old new r → ToldRead t s c old new r
  read_listed {h} {n} {new = new} k (Told.took vs e x f) =
      let (a, b) = fronted vs old new n (counted_values k.legal x) f in
      record {
        fields = subst (λ (us : List ℤ). Reader (asked_into t old) c.stop.0 (left c s) (gives (listed (headed h us) e.at.0))) (sym a) (reads_list w (k.reached.then vs e x));
        list = f ∙ ap (λ (us : List ℤ). us ++ drop (length us) old) (sym a);
        counted = b;
      }
  read_listed {new = new} k (Told.no {r = r} x f) = record { fields = reads_no w (headed_no_end k) (k.reached.no (refusal_number r.why) r.at x); list = f; counted = tt }

-- with a room that is known otherwise
pub headed_room : {t : Kind} {m r : ℕ} → m ≡ r → {s : List ℕ} {c : Cursor} {h : Heading} {n : ℕ} {d : Cursor} → Headed (record { wanted = This t; room = m }) s c h n d → Headed (record { wanted = This t; room = r }) s c h n d
headed_room {t} f {s} {c} {h} {n} {d} k = subst (λ (x : ℕ). Headed (record { wanted = This t; room = x }) s c h n d) f k

pub refused_room : (t : Kind) {m r : ℕ} → m ≡ r → {s : List ℕ} {c : Cursor} {n : ℕ} {p : BitPos} → Refuses (record_for (record { wanted = This t; room = m })) s c n p → Refuses (record_for (record { wanted = This t; room = r })) s c n p
refused_room t f {s} {c} {n} {p} k = subst (λ (x : ℕ). Refuses (record_for (record { wanted = This t; room = x })) s c n p) f k
