-- The fields of a heading, each judged.
use Rattle.std.specs.Prelude.{◌≡◌, refl, Some, None, Ok, Err, Bool, true, false, List, ◌++◌, ℕ, ◌<◌, length}
use Rattle.std.proofs.Common.{sym, ap, ◌∙◌, subst, arith, length-append}
use Rattle.layout.specs.Bits.{in_bits}
use Rattle.layout.specs.Layout.{Takes, FixedNo, short, fixed}
use Rattle.layout.proofs.Laws.Bits.{in_bits_one, in_bits_zero}
use Rattle.format.specs.Kinds as Kinds
use Rattle.format.specs.Kinds.{kind_number}
use Rattle.format.specs.Records as Records
use Rattle.format.specs.Records.{code_number, Wants, code_field, parameter_field}
use Rattle.format.specs.Streams.{end_mark}
use Rattle.format.specs.Reading.{NoEnd}
use Rattle.format.proofs.Laws.Kinds.{kind_one}
use Rattle.format.proofs.Laws.Records.{code_range}
use Rattle.bits.specs.Cursor.{Within, left, Taken, Refuses, ToldField}
use Rattle.bits.specs.Laws.Cursor.{field_taken}
use Rattle.bits.specs.declared.Cursor.{Cursor}
use Rattle.headings.specs.Headings as Headings
use Rattle.headings.specs.Headings.{code_of, carried, kind_of, ToldCode, ToldNumber}
use Rattle.headings.specs.declared.Code.{Code}
use Rattle.headings.specs.declared.Code.TheVariants.{Gamma, Delta, Rice, VariableByte, Interpolative}
use Rattle.headings.specs.declared.Kind.{Kind}
use Rattle.headings.specs.declared.UnknownKind.{UnknownKind}
use Rattle.lists.specs.Tests.{Unless}
use Rattle.lists.specs.Laws.Tests.{holds_if, fails_if}
use Rattle.wanted.specs.Wanted.{Goes}
use Rattle.reading.specs.Laws.Steps.{taken_only, no_field, no_value, taken_known}
use Rattle.reading.specs.declared.Refusal.TheVariants.{CutShort, Unknown}
use Rattle.read_headings.specs.Told.{Ended}
use Rattle.read_headings.specs.Fields as Fields
use Rattle.read_headings.specs.Fields.{ToldCodeField, ToldKindField, ToldParameterField}
use Rattle.read_headings.specs.Laws.Told.{field_cut}

-- ---- the code, and the end mark in its place

mark_is : end_mark ≡ in_bits 4 0
mark_is = sym (in_bits_zero 4)

module _ {s : List ℕ} {c d : Cursor} where
  pub zero_ends : {v : ℕ} → Taken (fixed 4) s c v d → v ≡ 0 → Ended s c d
  zero_ends t e = record { mark = t.takes.front ∙ ap (λ (l : List Bool). l ++ left d s) (ap (in_bits 4) e ∙ sym mark_is); within = t.within; stop = t.stop }

  -- an end mark is the number 0
  pub ended_zero : Ended s c d → Taken (fixed 4) s c 0 d
  ended_zero e = record { takes = record { valid = omega arith; front = e.mark ∙ ap (λ (l : List Bool). l ++ left d s) mark_is }; within = e.within; stop = e.stop }

-- another number is none
some_no_end : {v : ℕ} {w r : List Bool} → Takes (fixed 4) w v r → (v ≡ 0 → ⊥) → NoEnd w
some_no_end {v} {w} {r} t n x e =
    n ((in_bits_one 4 v 0 t.valid (omega arith)).split r x (sym t.front ∙ e ∙ ap (λ (l : List Bool). l ++ x) mark_is)).0

-- nor is a code's
pub code_no_end : {x : Records.Code} {w r : List Bool} → Takes code_field w x r → NoEnd w
code_no_end {x} t = let n = code_range x in some_no_end {v = code_number x} (record { valid = t.valid.1; front = t.front }) (λ e. omega (arith, n))

too_short : {w u : List Bool} {n : ℕ} → FixedNo 4 w n u → length w < 4
too_short (short h) = h

-- nor are fewer than 4 bits
pub short_no_end : {s : List ℕ} {c : Cursor} → Refuses (fixed 4) s c 6 c.at → NoEnd (left c s)
short_no_end {s} {c} r x e = let l = ap length e ∙ length-append end_mark x in omega (arith, too_short r.no, l)

code_number_lem : {v k : ℕ} {x : Code} → ToldCode v k (Some x) → code_number (code_of x) ≡ v
code_number_lem (Headings.is h) = h.number

-- with the parameter 0 only the number decides
no_code_number : {v : ℕ} → ToldCode v 0 None → (x : Records.Code) → code_number x ≡ v → ⊥
no_code_number (Headings.unknown p) Records.Gamma n = p Records.Gamma n (omega arith)
no_code_number (Headings.unknown p) Records.Delta n = p Records.Delta n (omega arith)
no_code_number (Headings.unknown p) Records.Rice n = p Records.Rice n (omega arith)
no_code_number (Headings.unknown p) Records.VariableByte n = p Records.VariableByte n (omega arith)
no_code_number (Headings.unknown p) Records.Interpolative n = p Records.Interpolative n (omega arith)

module _ {s : List ℕ} {c : Cursor} where
  module _ {v : ℕ} {d : Cursor} (t : ToldField 4 s c (Some (v, d))) where
    pub code_ends : v ≡ 0 → ToldCodeField s c (Ok (None, d))
    code_ends z = Fields.ends (zero_ends (field_taken t) z)

    pub code_is : {x : Code} → ToldCode v 0 (Some x) → ToldCodeField s c (Ok (Some x, d))
    code_is {x = x} h = Fields.is {x = x} (taken_only (code_of x) tt (code_number_lem h) (field_taken t))

    -- "7: code over 5 (at the code)"
    pub code_unknown : Within c (length s) → (v ≡ 0 → ⊥) → ToldCode v 0 None → ToldCodeField s c (Err (record { why = Unknown; at = c.at }))
    code_unknown w z h = Fields.no {m = Unknown} (some_no_end (field_taken t).takes z) (no_value w (field_taken t) (λ x g n. no_code_number h x n))

  pub code_cut : ToldField 4 s c None → ToldCodeField s c (Err (record { why = CutShort; at = c.at }))
  code_cut t = let k = field_cut t in Fields.no {m = CutShort} (short_no_end k) (no_field k)

-- ---- the kind

kind_number_lem : {v : ℕ} {t : Kind} → ToldNumber v (Ok t) → kind_number (kind_of t) ≡ v
kind_number_lem (Headings.is n) = n

kind_same : {v : ℕ} {t : Kind} → ToldNumber v (Ok t) → (u : Kinds.Kind) → kind_number u ≡ v → u ≡ kind_of t
kind_same {t = t} h u n = kind_one u (kind_of t) (n ∙ sym (kind_number_lem h))

no_kind_number : {v : ℕ} {e : UnknownKind} → ToldNumber v (Err e) → (t : Kinds.Kind) → kind_number t ≡ v → ⊥
no_kind_number (Headings.unknown p) = p

module _ {w : Records.Wanted} {x : Records.Code} {s : List ℕ} {c : Cursor} where
  module _ {v : ℕ} {d : Cursor} (t : ToldField 2 s c (Some (v, d))) where
    module _ {u : Kind} (h : ToldNumber v (Ok u)) where
      pub kind_is : {a b : Bool} → Unless (Wants w (kind_of u)) a → a ≡ false → Unless (Goes x (kind_of u)) b → b ≡ false → ToldKindField w x s c (Ok (u, d))
      kind_is i j k l = Fields.is {t = u} (taken_only (kind_of u) (holds_if i j, holds_if k l) (kind_number_lem h) (field_taken t))

      module _ (i : Within c (length s)) {a : Bool} where
        pub kind_unwanted : Unless (Wants w (kind_of u)) a → a ≡ true → ToldKindField w x s c (Err (record { why = Unknown; at = c.at }))
        kind_unwanted k l = Fields.no {m = Unknown} (no_value i (field_taken t) (λ y g n. fails_if k l (subst (Wants w) (kind_same h y n) g.0)))

        pub kind_amiss : Unless (Goes x (kind_of u)) a → a ≡ true → ToldKindField w x s c (Err (record { why = Unknown; at = c.at }))
        kind_amiss k l = Fields.no {m = Unknown} (no_value i (field_taken t) (λ y g n. fails_if k l (subst (Goes x) (kind_same h y n) g.1)))

    -- "7: kind 3, kind not the asked one, code 5 without kind 1 (at the kind)"
    pub kind_unknown : {e : UnknownKind} → Within c (length s) → ToldNumber v (Err e) → ToldKindField w x s c (Err (record { why = Unknown; at = c.at }))
    kind_unknown i h = Fields.no {m = Unknown} (no_value i (field_taken t) (λ u g n. no_kind_number h u n))

  pub kind_cut : ToldField 2 s c None → ToldKindField w x s c (Err (record { why = CutShort; at = c.at }))
  kind_cut t = Fields.no {m = CutShort} (no_field (field_cut t))

-- ---- the parameter

module _ {s : List ℕ} {c : Cursor} where
  none_stands : (x : Code) → ((k : ℕ) → x ≡ Rice k → ⊥) → Within c (length s) → Taken (parameter_field (code_of x)) s c (carried x) c
  none_stands Gamma p w = taken_known 0 w
  none_stands Delta p w = taken_known 0 w
  none_stands (Rice k) p w = absurd (p k refl)
  none_stands VariableByte p w = taken_known 0 w
  none_stands Interpolative p w = taken_known 0 w

  -- "it is 0 in the record and when told" for a code that has none
  pub parameter_none : (x : Code) → ((k : ℕ) → x ≡ Rice k → ⊥) → Within c (length s) → ToldParameterField x s c (Ok (x, c))
  parameter_none x p w = Fields.is {y = x} (record { code = refl; parameter = none_stands x p w })

  module _ {x : Code} {j : ℕ} (e : x ≡ Rice j) where
    -- "for Rice k in 5"
    pub parameter_is : {k : ℕ} {d : Cursor} → ToldField 5 s c (Some (k, d)) → ToldParameterField x s c (Ok (Rice k, d))
    parameter_is {k = k} t = Fields.is {y = Rice k} (record { code = ap code_of (sym e); parameter = field_taken t })

    pub parameter_cut : ToldField 5 s c None → ToldParameterField x s c (Err (record { why = CutShort; at = c.at }))
    parameter_cut t = Fields.cut (subst (λ (y : Code). Refuses (parameter_field (code_of y)) s c 6 c.at) (sym e) (field_cut t))
