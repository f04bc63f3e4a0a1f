-- The fields of a heading put together.
use Rattle.std.specs.Prelude.{None, Ok, Err, List, ℕ, ◌≤◌, ℤ, length}
use Rattle.std.proofs.Common.{sym, ap, subst, arith}
use Rattle.layout.specs.Layout.{Layout, known}
use Rattle.format.specs.Limits.{largest_parameter}
use Rattle.format.specs.Kinds as Kinds
use Rattle.format.specs.Records as Records
use Rattle.format.specs.Records.{Asked, code_field, kind_field, parameter_field, count_field, body, fields, record_for}
use Rattle.format.specs.Reading.{NoEnd}
use Rattle.format.proofs.Laws.Bodies.{body_list}
use Rattle.format.proofs.Laws.Records.{code_range}
use Rattle.bits.specs.Cursor.{Within, left, Taken, Refuses}
use Rattle.bits.specs.declared.BitPos.{BitPos}
use Rattle.bits.specs.declared.Cursor.{Cursor}
use Rattle.headings.specs.Headings.{code_of, carried, kind_of}
use Rattle.headings.specs.declared.Code.{Code}
use Rattle.headings.specs.declared.Kind.{Kind}
use Rattle.headings.specs.declared.Heading.{Heading}
use Rattle.reading.specs.Refusals.{refusal_number}
use Rattle.reading.specs.Reached.{Reached}
use Rattle.reading.specs.Laws.Steps.{no_first, no_second, no_value, taken_known}
use Rattle.reading.specs.Laws.Reached.{on, past, parts}
use Rattle.reading.specs.declared.Refused.{Refused}
use Rattle.read_counts.specs.Told.{ToldCountField}
use Rattle.read_counts.specs.Laws.Told.{was_count, was_no_count}
use Rattle.read_headings.specs.Told as Told
use Rattle.read_headings.specs.Told.{Ended, heading_then, heading_for, Headed, NoHeading, ToldHeading}
use Rattle.read_headings.specs.Fields.{ToldCodeField, ToldKindField, CodeWith, ToldParameterField}
use Rattle.read_headings.specs.Laws.Told.{was_mark, was_no_code, was_no_kind, was_no_parameter}
use Rattle.read_headings.specs.Laws.Fields.{ended_zero, code_no_end}
use Rattle.read_headings.specs.declared.Begun.TheVariants as OfBegun

-- ---- past each field, whatever comes after the count

module _ {B : Type 0} (q : Asked) (M : Records.Code → Kinds.Kind → ℕ → ℕ → Layout B) {s : List ℕ} {c d : Cursor} {x : Records.Code} (code : Taken code_field s c x d) where
  no_kind : {m : ℕ} {p : BitPos} → Refuses (kind_field q.wanted x) s d m p → Refuses (heading_then q M) s c m p
  no_kind r = no_second code (no_first r)

  module _ {e : Cursor} {t : Kinds.Kind} (kind : Taken (kind_field q.wanted x) s d t e) where
    no_parameter : {m : ℕ} {p : BitPos} → Refuses (parameter_field x) s e m p → Refuses (heading_then q M) s c m p
    no_parameter r = no_second code (no_second kind (no_first r))

    module _ {f : Cursor} {k : ℕ} (parameter : Taken (parameter_field x) s e k f) where
      no_count : {m : ℕ} {p : BitPos} → Refuses (count_field q.room) s f m p → Refuses (heading_then q M) s c m p
      no_count r = no_second code (no_second kind (no_second parameter (no_first r)))

      at_rest : {g : Cursor} {n : ℕ} → Taken (count_field q.room) s f n g → Reached (heading_then q M) s c (M x t k n) (λ b. (x, (t, (k, (n, b))))) g
      at_rest count = on (past code) (on (past kind) (on (past parameter) (past count)))

-- ---- a record is a heading, and then the body that it asks for

-- what comes after the count: in a record the body, after a heading alone nothing
abbrev bodies : Records.Code → Kinds.Kind → ℕ → ℕ → Layout (List ℤ)
bodies x t k n = body x k t n

abbrev nothing : Records.Code → Kinds.Kind → ℕ → ℕ → Layout (Unit {0})
nothing x t k n = known tt

record_parts : (q : Asked) {s : List ℕ} {c : Cursor} → Within c (length s)
    → Reached (record_for q) s c (heading_then q bodies) (λ (x, (t, (k, (n, vs)))). record { code = x; kind = t; parameter = k; values = vs }) c
unfolding record_for
record_parts q w =
    parts fields (λ (x, (t, (k, (n, vs)))). record { code = x; kind = t; parameter = k; values = vs }) w
    (λ (x, (t, (k, (n, vs)))) h. (tt, ap (λ (m : ℕ). (x, (t, (k, (m, vs))))) (body_list x k t n vs h.1.0.0.1 h.1.1.1.1).0))

-- what a heading is refused with, whatever comes after it, the record is
refused : (q : Asked) {s : List ℕ} {c : Cursor} {r : Refused} → Within c (length s) → NoEnd (left c s)
    → Refuses (heading_then q nothing) s c (refusal_number r.why) r.at → Refuses (heading_then q bodies) s c (refusal_number r.why) r.at → ToldHeading q s c (Err r)
unfolding heading_for
refused q {r = r} w o h b = Told.no {m = r.why} {p = r.at} (record { mark = o; heading = h; whole = (record_parts q w).no _ _ b })

-- five bits hold no parameter that is too large
parameter_small : (x : Records.Code) (k : ℕ) → (parameter_field x).ok k → k ≤ largest_parameter
parameter_small Records.Gamma k h = omega arith
parameter_small Records.Delta k h = omega arith
parameter_small Records.Rice k h = omega arith
parameter_small Records.VariableByte k h = omega arith
parameter_small Records.Interpolative k h = omega arith

-- every field has been taken
all_taken : (q : Asked) (h : Heading) {s : List ℕ} {c d e f g : Cursor} {n : ℕ} → Within c (length s)
    → Taken code_field s c (code_of h.code) d → Taken (kind_field q.wanted (code_of h.code)) s d (kind_of h.kind) e
    → Taken (parameter_field (code_of h.code)) s e (carried h.code) f → Taken (count_field q.room) s f n g → Headed q s c h n g
unfolding heading_for
all_taken q h {g = g} w code kind parameter count = record {
  legal = record {
    wanted = kind.takes.valid.0.0;
    instants = kind.takes.valid.0.1;
    parameter = parameter_small (code_of h.code) (carried h.code) parameter.takes.valid;
    count = count.takes.valid.1.0;
    room = count.takes.valid.0;
  };
  taken = (at_rest q nothing code kind parameter count).then tt g (taken_known tt count.within);
  reached = on (record_parts q w) (at_rest q bodies code kind parameter count);
}

-- look-up and search answer an end mark 7, at the code
pub end_no : (q : Asked) {s : List ℕ} {c d : Cursor} → Ended s c d → Within c (length s) → Refuses (record_for q) s c 7 c.at
end_no q {c = c} e w = (record_parts q w).no 7 c.at (no_first (no_value w (ended_zero e) (λ x g n. omega (arith, code_range x))))

-- ---- what each field's answer comes to

-- code and kind, said of the code that has its parameter
module _ {x y : Code} {s : List ℕ} {e f : Cursor} (with : CodeWith x s e y f) {c d : Cursor} where
  whole_code : Taken code_field s c (code_of x) d → Taken code_field s c (code_of y) d
  whole_code = subst (λ (v : Records.Code). Taken code_field s c v d) (sym with.code)

  whole_kind : (w : Records.Wanted) {t : Kinds.Kind} → Taken (kind_field w (code_of x)) s c t d → Taken (kind_field w (code_of y)) s c t d
  whole_kind w {t = t} = subst (λ (v : Records.Code). Taken (kind_field w v) s c t d) (sym with.code)

module _ {q : Asked} {s : List ℕ} {c : Cursor} (w : Within c (length s)) where
  pub mark_told : {d : Cursor} → ToldCodeField s c (Ok (None, d)) → ToldHeading q s c (Ok (OfBegun.End d))
  mark_told t = Told.ends (was_mark t)

  pub no_code_told : {r : Refused} → ToldCodeField s c (Err r) → ToldHeading q s c (Err r)
  no_code_told t = let (n, k) = was_no_code t in refused q w n (no_first k) (no_first k)

  module _ (x : Code) {d : Cursor} (code : Taken code_field s c (code_of x) d) where
    pub no_kind_told : {r : Refused} → ToldKindField q.wanted (code_of x) s d (Err r) → ToldHeading q s c (Err r)
    no_kind_told t = let k = was_no_kind t in refused q w (code_no_end code.takes) (no_kind q nothing code k) (no_kind q bodies code k)

    module _ (t : Kind) {e : Cursor} (kind : Taken (kind_field q.wanted (code_of x)) s d (kind_of t) e) where
      pub no_parameter_told : {r : Refused} → ToldParameterField x s e (Err r) → ToldHeading q s c (Err r)
      no_parameter_told u =
          let k = was_no_parameter u in
          refused q w (code_no_end code.takes) (no_parameter q nothing code kind k) (no_parameter q bodies code kind k)

      module _ {y : Code} {f : Cursor} (with : CodeWith x s e y f) where
        pub no_count_told : {r : Refused} → ToldCountField q.room s f (Err r) → ToldHeading q s c (Err r)
        no_count_told u =
            let a = whole_code with code in
            let b = whole_kind with q.wanted kind in
            let k = was_no_count u in
            refused q w (code_no_end code.takes) (no_count q nothing a b with.parameter k) (no_count q bodies a b with.parameter k)

        pub body_told : {n : ℕ} {g : Cursor} → ToldCountField q.room s f (Ok (n, g)) → ToldHeading q s c (Ok (OfBegun.Body (record { code = y; kind = t }) n g))
        body_told u = Told.begins (all_taken q (record { code = y; kind = t }) w (whole_code with code) (whole_kind with q.wanted kind) with.parameter (was_count u))
