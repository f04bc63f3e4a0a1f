-- The bits of a stream pass the stream check, with its numbers of records and of values; and what passes is a stream.
use Rattle.std.specs.Prelude.{◌≡◌, refl, Bool, false, List, [], ◌∷◌, ◌++◌, ℕ, ◌+◌, ◌*◌, ◌≤◌, ◌<◌, length}
use Rattle.std.proofs.Common.{sym, ap, ap₂, ◌∙◌, subst, append_assoc, arith, length-append}
use Rattle.std.proofs.lemmas.List.{length-replicate}
use Rattle.layout.specs.Bits.{zeros, bits_of}
use Rattle.layout.specs.Layout.{row, All}
use Rattle.layout.proofs.Laws.Bits.{length_bits_of}
use Rattle.format.specs.Limits.{longest_buffer}
use Rattle.format.specs.Records.{Record, Valid, any_record}
use Rattle.format.specs.Streams.{end_mark, to_byte_end, stream, values_in}
use Rattle.format.specs.Answers.{Outcome, refuses, gives}
use Rattle.format.specs.Reading as Reading
use Rattle.format.specs.Reading.{Padding, Check, Checks}
use Rattle.format.proofs.Laws.Records.{valid_any, any_valid}

-- the numbers that the check comes to, after some records with some values
abbrev counted : ℕ → ℕ → List Record → Outcome (ℕ × ℕ)
counted records values rs = gives (records + length rs, values + values_in rs)

counted_more : (records values : ℕ) (r : Record) (rs : List Record) → counted (records + 1) (values + length r.values) rs ≡ counted records values (r ∷ rs)
counted_more records values r rs = ap₂ (λ (a b : ℕ). gives (a, b)) (omega arith) (omega arith)

-- ---- a stream passes

row_checks : (stop : ℕ) (rs : List Record) (pad : List Bool) (records values : ℕ) → All Valid rs → Padding pad
    → Check stop (counted records values rs) (row any_record rs ++ (end_mark ++ pad)) records values
row_checks stop [] pad records values h p = Reading.ends {records = records} {values = values} refl p (ap₂ (λ (a b : ℕ). gives (a, b)) (omega arith) (omega arith))
row_checks stop (r ∷ rs) pad records values h p =
    Reading.goes_on (record { valid = valid_any r h.0; front = append_assoc (any_record.bits r) (row any_record rs) (end_mark ++ pad) })
    (subst (λ (x : Outcome (ℕ × ℕ)). Check stop x (row any_record rs ++ (end_mark ++ pad)) (records + 1) (values + length r.values)) (counted_more records values r rs)
    (row_checks stop rs pad (records + 1) (values + length r.values) h.1 p))

pub stream_checks : (rs : List Record) (bytes : List ℕ) → All Valid rs → length bytes ≤ longest_buffer → bits_of bytes ≡ stream rs → Checks bytes (gives (length rs, values_in rs))
stream_checks rs bytes h l e =
    let n : ℕ = to_byte_end (length (row any_record rs ++ end_mark)) in
    let z : length (zeros n) ≡ n = length-replicate n false in
    let p : Padding (zeros n) = (omega arith, ap zeros (sym z)) in
    let x : counted 0 0 rs ≡ gives (length rs, values_in rs) = ap₂ (λ (a b : ℕ). gives (a, b)) (omega arith) (omega arith) in
    Reading.checked l
    (subst (λ (y : Outcome (ℕ × ℕ)). Check (8 * length bytes) y (bits_of bytes) 0 0) x
    (subst (λ (w : List Bool). Check (8 * length bytes) (counted 0 0 rs) w 0 0) (sym (append_assoc (row any_record rs) end_mark (zeros n)) ∙ sym e)
    (row_checks (8 * length bytes) rs (zeros n) 0 0 h p)))

-- ---- what passes is a stream

record Passed (w : List Bool) (records values m n : ℕ) : Type 0 where
  rs : List Record
  pad : List Bool
  valid : All Valid rs
  padding : Padding pad
  bits : w ≡ row any_record rs ++ (end_mark ++ pad)
  numbers : (m ≡ records + length rs) × (n ≡ values + values_in rs)

given : Outcome (ℕ × ℕ) → ℕ × ℕ
given (refuses n p) = (0, 0)
given (gives a) = a

check_passed : (stop m n : ℕ) {x : Outcome (ℕ × ℕ)} {w : List Bool} {records values : ℕ} → Check stop x w records values → x ≡ gives (m, n) → Passed w records values m n
unfolding given
check_passed stop m n (Reading.fails u l k f) e = let z : ◌≡◌ {A = ℕ} 0 1 = cc in absurd (omega arith)
check_passed stop m n (Reading.unclean g p f) e = let z : ◌≡◌ {A = ℕ} 0 1 = cc in absurd (omega arith)
check_passed stop m n (Reading.ends {r = r} {records = records} {values = values} g p f) e =
    let z : ◌≡◌ {A = ℕ × ℕ} (m, n) (records, values) = ap given (sym e ∙ f) in
    let a : m ≡ records = ap (λ (y : ℕ × ℕ). y.0) z in
    let b : n ≡ values = ap (λ (y : ℕ × ℕ). y.1) z in
    record { rs = []; pad = r; valid = tt; padding = p; bits = g; numbers = (omega arith, omega arith) }
check_passed stop m n (Reading.goes_on {records = records} {values = values} {a = a} t k) e =
    let q = check_passed stop m n k e in
    let (i, j) = q.numbers in
    record {
      rs = a ∷ q.rs;
      pad = q.pad;
      valid = (any_valid a t.valid, q.valid);
      padding = q.padding;
      bits = t.front ∙ ap (λ (y : List Bool). any_record.bits a ++ y) q.bits ∙ sym (append_assoc (any_record.bits a) (row any_record q.rs) (end_mark ++ q.pad));
      numbers = (omega arith, omega arith);
    }

to_byte_end_lem : (l p n : ℕ) → l + p ≡ 8 * n → p < 8 → p ≡ to_byte_end l
to_byte_end_lem l p n e h = omega arith

pub checks_stream : (bytes : List ℕ) (records values : ℕ) → Checks bytes (gives (records, values))
    → (rs : List Record) × All Valid rs × (bits_of bytes ≡ stream rs) × (length rs ≡ records) × (values_in rs ≡ values)
checks_stream bytes records values (Reading.checked l k) =
    let q = check_passed (8 * length bytes) records values k refl in
    let w : List Bool = row any_record q.rs ++ end_mark in
    let f : bits_of bytes ≡ w ++ q.pad = q.bits ∙ sym (append_assoc (row any_record q.rs) end_mark q.pad) in
    let g : length w + length q.pad ≡ 8 * length bytes = sym (length-append w q.pad) ∙ sym (ap length f) ∙ length_bits_of bytes in
    let n : length q.pad ≡ to_byte_end (length w) = to_byte_end_lem (length w) (length q.pad) (length bytes) g (omega (arith, q.padding.0)) in
    let (a, b) = q.numbers in
    (q.rs, q.valid, f ∙ ap (λ (y : List Bool). w ++ y) (q.padding.1 ∙ ap zeros n), omega arith, omega arith)
