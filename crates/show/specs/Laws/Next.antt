-- A reader asked for one kind after another settles what stands next in a checked stream.
use Rattle.std.specs.Prelude.{◌≡◌, refl, ◌⊎◌, Result, Ok, Err, Bool, List, ◌++◌, ℕ, ◌+◌, ◌-◌, ◌*◌, ◌≤◌, ℤ, length, take, drop}
use Rattle.std.proofs.Common.{sym, ap, ◌∙◌, subst, subst₂, inl, inr, append_assoc, le_refl, le_trans, arith, length-append, length-drop, drop-drop, drop_at, take_all, length-take-le}
use Rattle.layout.specs.Bits.{bits_of}
use Rattle.layout.specs.Layout.{Takes, first, second, value}
use Rattle.layout.proofs.Laws.Bits.{length_bits_of}
use Rattle.layout.proofs.Laws.Sound.{takes_one}
use Rattle.format.specs.Limits.{longest_list}
use Rattle.format.specs.Kinds.{Kind, Plain, Instants, Corrections, kind_number, Family}
use Rattle.format.specs.Records as Records
use Rattle.format.specs.Records.{Asked, This, parameter_field, count_field, body, record_for, anyone, any_record}
use Rattle.format.specs.Streams.{end_mark}
use Rattle.format.specs.Answers.{Outcome, refuses, gives, Span, told_bit, Told}
use Rattle.format.specs.Reading as Reading
use Rattle.format.specs.Reading.{Item, Reads, Check, Checks}
use Rattle.format.proofs.Laws.Kinds.{kind_one, is_kind}
use Rattle.format.proofs.Laws.Records.{record_sound, valid_any, any_valid}
use Rattle.format.proofs.Laws.Marks.{takes_no_end, takes_shorter}
use Rattle.format.proofs.Laws.Reading.{told_one, reads_one}
use Rattle.format.proofs.Laws.Outcomes.{reads_accepted, accepted_reads}
use Rattle.headings.specs.Headings.{kind_of, headed}
use Rattle.reading.specs.Refusals.{refusal_number}
use Rattle.reading.specs.declared.Refused.{Refused}
use Rattle.read_records.specs.declared.Found.{Found}
use Rattle.read_records.specs.declared.Found.TheVariants.{Record, End}
use Rattle.read_entries.specs.Reads.{ReadsInto}
use Rattle.show.specs.Next as Next
use Rattle.show.specs.Next.{on_from, GoesOn, Ahead, OtherKind}

-- ---- where what is left begins

pub length_from : (bytes : List ℕ) (at : ℕ) → length (on_from bytes at) ≡ 8 * length bytes - at
length_from bytes at =
    length-drop at (take (8 * length bytes) (bits_of bytes))
    ∙ ap (λ (m : ℕ). m - at) (ap length (take_all (8 * length bytes) (bits_of bytes) (omega (arith, length_bits_of bytes))) ∙ length_bits_of bytes)

module _ (bytes : List ℕ) (at : ℕ) (x r : List Bool) (inside : at ≤ 8 * length bytes) (e : on_from bytes at ≡ x ++ r) where
  pub told_after : told_bit (8 * length bytes) r ≡ at + length x
  told_after = let k : length x + length r ≡ 8 * length bytes - at = sym (length-append x r) ∙ sym (ap length e) ∙ length_from bytes at in omega arith

  pub told_inside : told_bit (8 * length bytes) r ≤ 8 * length bytes
  told_inside = omega arith

  pub told_rest : on_from bytes (told_bit (8 * length bytes) r) ≡ r
  told_rest =
      ap (on_from bytes) told_after ∙ sym (drop-drop (length x) at (take (8 * length bytes) (bits_of bytes))) ∙ ap (drop (length x)) e ∙ drop_at x r (length x) refl

-- ---- what a checked stream has next

pub goes_first : (bytes : List ℕ) (told : ℕ × ℕ) → Checks bytes (gives told) → GoesOn bytes 0
goes_first bytes told (Reading.checked small check) =
    record {
      small = small;
      inside = omega arith;
      records = 0;
      values = 0;
      told = told;
      check = subst (λ (w : List Bool). Check (8 * length bytes) (gives told) w 0 0) (sym (take_all (8 * length bytes) (bits_of bytes) (omega (arith, length_bits_of bytes)))) check;
    }

pub ahead : {bytes : List ℕ} {at : ℕ} → GoesOn bytes at → Ahead bytes at ⊎ ((rest : List Bool) × (on_from bytes at ≡ end_mark ++ rest))
ahead {bytes} {at} g = go g.records g.values g.check
  where
    go : (records values : ℕ) → Check (8 * length bytes) (gives g.told) (on_from bytes at) records values → Ahead bytes at ⊎ ((rest : List Bool) × (on_from bytes at ≡ end_mark ++ rest))
    go records values (Reading.fails u m n e) = let z : ◌≡◌ {A = ℕ} 0 1 = cc in absurd (omega arith)
    go records values (Reading.unclean m p e) = let z : ◌≡◌ {A = ℕ} 0 1 = cc in absurd (omega arith)
    go records values (Reading.ends {r = rest} m p e) = inr (rest, m)
    go records values (Reading.goes_on {r = rest} {a = a} t more) =
        inl (record {
          entry = a;
          rest = rest;
          takes = t;
          on = record {
            small = g.small;
            inside = told_inside bytes at (any_record.bits a) rest g.inside t.front;
            records = records + 1;
            values = values + length a.values;
            told = g.told;
            check = subst (λ (w : List Bool). Check (8 * length bytes) (gives g.told) w (records + 1) (values + length a.values)) (sym (told_rest bytes at (any_record.bits a) rest g.inside t.front)) more;
          };
        })

-- ---- what a reader answers that is asked for one kind

-- of a record of another kind: 7
pub other_kind : (q : Asked) (t : Kind) {w : List Bool} {a : Records.Record} {r : List Bool} → q.wanted ≡ This t → Takes any_record w a r → (a.kind ≡ t → ⊥) → (u : List Bool) × (record_for q).no w 7 u
unfolding record_for
other_kind q t {w} {a} {r} asked x differs =
    let code : List Bool = (Records.code_field).bits a.code in
    let kind : List Bool = (Records.kind_field Records.Any a.code).bits a.kind in
    let more : List Bool = (parameter_field a.code).bits a.parameter ++ ((count_field longest_list).bits (length a.values) ++ (body a.code a.parameter a.kind (length a.values)).bits a.values) in (
      kind ++ (more ++ r),
      second a.code (kind ++ (more ++ r))
          (record { valid = x.valid.1.0; front = x.front ∙ append_assoc code (kind ++ more) r ∙ ap (λ (l : List Bool). code ++ l) (append_assoc kind more r) })
          (first (value (kind_number a.kind) (more ++ r) (record { valid = x.valid.1.1.0.1; front = refl })
          (λ u good e. differs (kind_one a.kind t (sym e ∙ ap kind_number (wants u good.0)))))),
    )
  where
    wants : (u : Kind) → Records.Wants q.wanted u → u ≡ t
    wants u h = subst (λ (y : Records.Wanted). Records.Wants y u) asked h

module _ {bytes : List ℕ} {at : ℕ} {f : Family} {kind : ℕ} {t : Kind} {old new : List ℤ} {x : Outcome Item}
    (g : GoesOn bytes at) (asked : Told f kind t) (room : longest_list ≤ length old) (reads : Reads bytes at (8 * length bytes) f kind old x new) where
  abbrev stop : ℕ
  stop = 8 * length bytes

  span : Span bytes at stop
  span = record { small = g.small; order = g.inside; inside = le_refl stop }

  pub asked_kind : (a : Ahead bytes at) → a.entry.kind ≡ t → x ≡ gives (Reading.listed a.entry (told_bit stop a.rest))
  asked_kind a e =
      let v = any_valid a.entry a.takes.valid in
      (reads_one bytes at stop f kind old x _ new _ reads
      (accepted_reads bytes at stop f kind old a.entry (told_bit stop a.rest) (a.entry.values ++ drop (length a.entry.values) old)
      (record { span = span; told = subst (Told f kind) (sym e) asked; valid = v; room = le_trans v.count room; rest = a.rest; front = a.takes.front; next = refl; list = refl }))
      ).0

  pub asked_other : (a : Ahead bytes at) → (a.entry.kind ≡ t → ⊥) → (p : ℕ) × (x ≡ refuses 7 p)
  asked_other a differs =
      let (u, h) = other_kind (record { wanted = This t; room = length old }) t refl a.takes differs in
      (told_bit stop u, (reads_one bytes at stop f kind old x (refuses 7 (told_bit stop u)) new old reads (record { answer = Reading.reading span t asked (Reading.fails u (takes_no_end anyone a.takes) h refl); list = refl })).0)

  pub asked_end : (rest : List Bool) → on_from bytes at ≡ end_mark ++ rest → x ≡ gives (Reading.ended (told_bit stop rest))
  asked_end rest e =
      (reads_one bytes at stop f kind old x (gives (Reading.ended (told_bit stop rest))) new old reads (record { answer = Reading.reading span t asked (Reading.ends e refl); list = refl })).0

-- ---- so what stands next is settled by the first answer that is not 7

module _ {bytes : List ℕ} {at : ℕ} {f : Family} {kind : ℕ} {t : Kind} {old new : List ℤ} (g : GoesOn bytes at) (asked : Told f kind t) (room : longest_list ≤ length old) where
  -- a 7: a record stands there, of another kind
  pub other : (r : Result Found Refused) → ReadsInto bytes at (8 * length bytes) f kind old r new → OtherKind r → (a : Ahead bytes at) × (a.entry.kind ≡ t → ⊥)
  other (Ok f) s o = absurd o
  other (Err r) s o = go (ahead g)
    where
      go : Ahead bytes at ⊎ ((rest : List Bool) × (on_from bytes at ≡ end_mark ++ rest)) → (a : Ahead bytes at) × (a.entry.kind ≡ t → ⊥)
      go (inl a) = (a, λ e. let q = asked_kind g asked room s.reads a e in let z : ◌≡◌ {A = ℕ} 0 1 = cc in omega arith)
      go (inr (rest, e)) = let q = asked_end g asked room s.reads rest e in let z : ◌≡◌ {A = ℕ} 0 1 = cc in absurd (omega arith)

  pub settled : (lists : Kind → List ℤ) → lists t ≡ new → (r : Result Found Refused) → ReadsInto bytes at (8 * length bytes) f kind old r new → (OtherKind r → ⊥) → Next.Next bytes at lists r
  settled lists l (Ok (Record h n p)) s o =
      let c = reads_accepted bytes at (8 * length bytes) f kind old (headed h (take n new)) p.0 new s.reads in
      let e : kind_of h.kind ≡ t = told_one c.told asked in
      let own : take n (lists (kind_of h.kind)) ≡ take n new = ap (take n) (ap lists e ∙ l) in
      let takes : Takes any_record (on_from bytes at) (headed h (take n new)) c.rest = record { valid = valid_any (headed h (take n new)) c.valid; front = c.front } in
      let here : on_from bytes p.0 ≡ c.rest = ap (on_from bytes) c.next ∙ told_rest bytes at (any_record.bits (headed h (take n new))) c.rest g.inside c.front in
      let after = told_after bytes at (any_record.bits (headed h (take n new))) c.rest g.inside c.front in
      let less = takes_shorter anyone takes in
      let whole = length_from bytes at in
      let next = c.next in
      Next.listed {p = p}
      (subst₂ (λ (vs : List ℤ) (r : List Bool). Takes any_record (on_from bytes at) (headed h vs) r) (sym own) (sym here) takes)
      (subst (λ (k : ℕ). k ≤ longest_list) (length-take-le n new s.counted) c.valid.count)
      (omega arith)
      (subst (GoesOn bytes) (sym next) (on takes (ahead g)))
    where
      on : {r : Records.Record} {rest : List Bool} → Takes any_record (on_from bytes at) r rest → Ahead bytes at ⊎ ((rest : List Bool) × (on_from bytes at ≡ end_mark ++ rest)) → GoesOn bytes (told_bit (8 * length bytes) rest)
      on k (inl a) = subst (λ (u : List Bool). GoesOn bytes (told_bit (8 * length bytes) u)) (takes_one (record_sound anyone) a.takes k).1 a.on
      on k (inr (u, e)) = absurd (takes_no_end anyone k u e)
  settled lists l (Ok (End p)) s o = go (ahead g)
    where
      go : Ahead bytes at ⊎ ((rest : List Bool) × (on_from bytes at ≡ end_mark ++ rest)) → Next.Next bytes at lists (Ok (End p))
      go (inl a) = absurd (no_end a (is_kind a.entry.kind t))
        where
          no_end : (a : Ahead bytes at) → Dec (a.entry.kind ≡ t) → ⊥
          no_end a (yes e) = let q = asked_kind g asked room s.reads a e in let z : ◌≡◌ {A = ℕ} 0 1 = cc in omega arith
          no_end a (no e) = let (u, q) = asked_other g asked room s.reads a e in let z : ◌≡◌ {A = ℕ} 0 1 = cc in omega arith
      go (inr (rest, e)) =
          let q = asked_end g asked room s.reads rest e in
          let w : p.0 ≡ told_bit (8 * length bytes) rest = cc in
          Next.ended rest e (w ∙ told_after bytes at end_mark rest g.inside e)
  settled lists l (Err r) s o = go (ahead g)
    where
      go : Ahead bytes at ⊎ ((rest : List Bool) × (on_from bytes at ≡ end_mark ++ rest)) → Next.Next bytes at lists (Err r)
      go (inl a) = absurd (seven (is_kind a.entry.kind t))
        where
          seven : Dec (a.entry.kind ≡ t) → ⊥
          seven (yes e) = let q = asked_kind g asked room s.reads a e in let z : ◌≡◌ {A = ℕ} 0 1 = cc in omega arith
          seven (no e) = let (u, q) = asked_other g asked room s.reads a e in let w : refusal_number r.why ≡ 7 = cc in o w
      go (inr (rest, e)) = let q = asked_end g asked room s.reads rest e in let z : ◌≡◌ {A = ℕ} 0 1 = cc in absurd (omega arith)

-- a record that is of neither other kind has corrections
pub last_kind : {bytes : List ℕ} {at : ℕ} (a b c : Ahead bytes at) → (a.entry.kind ≡ Plain → ⊥) → (b.entry.kind ≡ Instants → ⊥) → (c.entry.kind ≡ Corrections → ⊥) → ⊥
last_kind a b c f h l =
    go a.entry.kind f
    (λ e. h (ap (λ (r : Records.Record). r.kind) (takes_one (record_sound anyone) b.takes a.takes).0 ∙ e))
    (λ e. l (ap (λ (r : Records.Record). r.kind) (takes_one (record_sound anyone) c.takes a.takes).0 ∙ e))
  where
    go : (t : Kind) → (t ≡ Plain → ⊥) → (t ≡ Instants → ⊥) → (t ≡ Corrections → ⊥) → ⊥
    go Plain x y z = x refl
    go Instants x y z = y refl
    go Corrections x y z = z refl
