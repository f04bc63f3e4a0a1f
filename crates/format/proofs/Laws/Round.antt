-- What is written is read back: the writer and the reader say the same of the same bits.
use Rattle.std.specs.Prelude.{◌≡◌, refl, Bool, List, [], ◌++◌, ℕ, ◌+◌, ◌≤◌, ℤ, pos, length, take, drop}
use Rattle.std.proofs.Common.{sym, ap, ◌∙◌, subst, append-nil, arith}
use Rattle.layout.specs.Bits.{bits_of, window}
use Rattle.layout.proofs.Laws.Bits.{length_bits_of}
use Rattle.layout.proofs.Laws.Windows.{length_put, put_window}
use Rattle.format.specs.Limits.{longest_buffer, longest_list}
use Rattle.format.specs.Kinds.{Kind, Family, ListOf}
use Rattle.format.specs.Records.{Code, Gamma, Delta, Rice, VariableByte, Interpolative, Record, Valid, This, Asked, anyone, any_record}
use Rattle.format.specs.Answers.{gives, Start, told_bit}
use Rattle.format.specs.Reading as Reading
use Rattle.format.specs.Reading.{listed, Reads}
use Rattle.format.specs.Writing as Writing
use Rattle.format.specs.Writing.{parameter_of, Chosen, Puts, Writes}
use Rattle.format.specs.Restated.{Holds, WrittenBits, ReadBack}
use Rattle.format.proofs.Laws.Kinds.{kind_one}
use Rattle.format.proofs.Laws.Records.{code_one, is_code, valid_ok}
use Rattle.format.proofs.Laws.Marks.{record_bits}

-- it is one
pub holds_one : (r s : Record) (code parameter kind : ℕ) (values : List ℤ) → Holds r code parameter kind values → Holds s code parameter kind values → r ≡ s
holds_one r s code parameter kind values h l =
    let c : r.code ≡ s.code = code_one r.code s.code (h.code_is ∙ sym l.code_is) in
    let t : r.kind ≡ s.kind = kind_one r.kind s.kind (h.kind_is ∙ sym l.kind_is) in
    let k : r.parameter ≡ s.parameter = same c (is_code r.code Rice) in
    let v : r.values ≡ s.values = h.values_are ∙ sym l.values_are in
    λ i. record { code = c i; kind = t i; parameter = k i; values = v i }
  where
    same : r.code ≡ s.code → Dec (r.code ≡ Rice) → r.parameter ≡ s.parameter
    same c (yes e) = h.parameter_is.0 e ∙ sym (l.parameter_is.0 (sym c ∙ e))
    same c (no p) = h.parameter_is.1 p ∙ sym (l.parameter_is.1 (λ e. p (c ∙ e)))

-- ---- the record that is written

abbrev recorded : Code → Kind → ℕ → List ℤ → Record
recorded c t parameter values = record { code = c; kind = t; parameter = parameter_of c parameter; values = values }

no_parameter : (c : Code) (k : ℕ) → (c ≡ Rice → ⊥) → parameter_of c k ≡ 0
no_parameter Gamma k p = refl
no_parameter Delta k p = refl
no_parameter Rice k p = absurd (p refl)
no_parameter VariableByte k p = refl
no_parameter Interpolative k p = refl

rice_parameter : (c : Code) (k : ℕ) → c ≡ Rice → parameter_of c k ≡ k
rice_parameter c k e = ap (λ (d : Code). parameter_of d k) e

module _ {f : Family} {code parameter kind : ℕ} {c : Code} {t : Kind} (chosen : Chosen f code parameter kind c t) (values : List ℤ) where
  recorded_holds : Holds (recorded c t parameter values) code parameter kind values
  recorded_holds = record { code_is = chosen.number; kind_is = chosen.told.number; parameter_is = (rice_parameter c parameter, no_parameter c parameter); values_are = refl }

  recorded_valid : length values ≤ longest_list → ListOf t (pos 0) values → Valid (recorded c t parameter values)
  recorded_valid short list = record { kind = chosen.instants; parameter = (λ e. chosen.small, no_parameter c parameter); count = short; values = list }

-- ---- "After success the writer has changed only the record's bits, and tells the bit after them."

module _ (bytes : List ℕ) (start : ℕ) where
  puts_bits : (place : Start bytes start) (r : Record) (p : ℕ) (after : List ℕ) → Puts bytes start (any_record.bits r) (gives p) after → WrittenBits bytes start r p after
  puts_bits place r p after (Writing.done room b e) =
      let i = place.inside in
      let n = length_bits_of bytes in
      let m = length_bits_of after in
      let l = ap length e ∙ length_put (bits_of bytes) start (any_record.bits r) (omega arith) in
      record { told = refl; left = e; size = omega arith; inside = omega arith }

  -- whichever record the caller asked for, it is that one's bits which are written
  pub written_bits : (f : Family) (code parameter kind : ℕ) (values : List ℤ) (p : ℕ) (after : List ℕ) → Writes bytes start f code parameter kind values (gives p) after
      → (r : Record) → Holds r code parameter kind values → WrittenBits bytes start r p after
  written_bits f code parameter kind values p after (Writing.judging {c = c} {t = t} place chosen (Writing.writing short list puts)) r h =
      subst (λ (s : Record). WrittenBits bytes start s p after) (holds_one (recorded c t parameter values) r code parameter kind values (recorded_holds chosen values) h)
      (puts_bits place (recorded c t parameter values) p after puts)

-- ---- what the writer has written the reader reads back, from the same start up to the bit that the writer told

module _ (bytes : List ℕ) (start : ℕ) (f : Family) (code parameter kind : ℕ) (values : List ℤ) (p : ℕ) (after : List ℕ) (old : List ℤ) where
  read_bits : (c : Code) (t : Kind) → Start bytes start → Chosen f code parameter kind c t → WrittenBits bytes start (recorded c t parameter values) p after → Valid (recorded c t parameter values)
      → length values ≤ length old → Reads after start p f kind old (gives (listed (recorded c t parameter values) p)) (values ++ drop (length values) old)
  read_bits c t place chosen bits valid room =
      let r : Record = recorded c t parameter values in
      let image : List Bool = any_record.bits r in
      let i = place.inside in
      let n = length_bits_of bytes in
      let told = bits.told in
      let size = bits.size in
      let inside = bits.inside in
      let w : window after start p ≡ image = ap (λ (k : ℕ). window after start k) told ∙ ap (λ (l : List Bool). drop start (take (start + length image) l)) bits.left ∙ put_window (bits_of bytes) start image (omega arith) in
      let last : p ≡ told_bit p [] = omega arith in
      let q : Asked = record { wanted = This t; room = length old } in
      record {
        answer = Reading.reading (record { small = subst (λ (k : ℕ). k ≤ longest_buffer) (sym bits.size) place.small; order = omega arith; inside = omega arith }) t chosen.told
            (Reading.lists {r = []}
            (record { valid = valid_ok q r valid refl room; front = w ∙ record_bits anyone q r ∙ sym (append-nil _) })
            last);
        list = refl;
      }

  pub reads_back : Writes bytes start f code parameter kind values (gives p) after → length values ≤ length old → ReadBack after start p f code parameter kind values old
  reads_back (Writing.judging {c = c} {t = t} place chosen (Writing.writing short list puts)) room =
      let valid = recorded_valid chosen values short list in
      record {
        entry = recorded c t parameter values;
        holds = recorded_holds chosen values;
        valid = valid;
        reads = read_bits c t place chosen (puts_bits bytes start place (recorded c t parameter values) p after puts) valid room;
      }
