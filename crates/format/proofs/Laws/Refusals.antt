-- What a refusal is, and what it is not.
use Rattle.std.specs.Prelude.{◌≡◌, refl, ◌↔◌, Bool, List, [], ℕ, zero, suc, ◌+◌, ◌-◌, ◌/◌, ◌%◌, ◌≤◌, ◌<◌, ℤ, pos, negsuc, length, take, drop}
use Rattle.std.proofs.Common.{sym, ap, ◌∙◌, subst, le_trans, arith, length-append, length-take, length-drop, drop-drop, drop_at}
use Rattle.std.proofs.Math.Decide.{dec_le, ℕ_discrete}
use Rattle.layout.specs.Bits.{bits_of, window}
use Rattle.layout.specs.Layout.{word, fixed, bind, only, made}
use Rattle.layout.proofs.Laws.Bits.{length_bits_of}
use Rattle.layout.proofs.Laws.Numbers.{Answers, word_answers, fixed_answers, known_answers, bind_answers, only_answers, only_never, chain_answers}
use Rattle.format.specs.Limits.{longest_list, largest_instant}
use Rattle.format.specs.Codes.{Word, gamma, delta, rice, variable_byte}
use Rattle.format.specs.Kinds.{Kind, Plain, Instants, Corrections, kind_number, Family, natural, Fits, word_of}
use Rattle.format.specs.Interpolative.{width, offset, part_in, part, interpolative}
use Rattle.format.specs.Records.{Code, Gamma, Delta, Rice, VariableByte, Interpolative, code_number, This, Asked, code_field, kind_field, parameter_field, count_field, words_by, body, record_for}
use Rattle.format.specs.Answers.{Outcome, refuses, Span, told_bit, Told}
use Rattle.format.specs.Reading as Reading
use Rattle.format.specs.Reading.{Item, Reader, filled, Reads}
use Rattle.format.specs.Writing as Writing
use Rattle.format.specs.Writing.{Puts, Writes, WritesEnd}
use Rattle.format.specs.Restated.{NoValue, Between}
use Rattle.format.proofs.Laws.Records.{record_sound, ok_valid}

-- ---- "A refusal changes nothing"

module _ (bytes : List ℕ) (start : ℕ) where
  puts_refused : (image : List Bool) (n i : ℕ) (after : List ℕ) → Puts bytes start image (refuses n i) after → after ≡ bytes
  puts_refused image n i after (Writing.full h) = refl

  pub writer_refusal : (f : Family) (code parameter kind : ℕ) (values : List ℤ) (n i : ℕ) (after : List ℕ) → Writes bytes start f code parameter kind values (refuses n i) after → after ≡ bytes
  writer_refusal f code parameter kind values n i after (Writing.outside p) = refl
  writer_refusal f code parameter kind values n i after (Writing.unknown s p) = refl
  writer_refusal f code parameter kind values n i after (Writing.judging s h (Writing.long l)) = refl
  writer_refusal f code parameter kind values n i after (Writing.judging s h (Writing.faulty l k)) = refl
  writer_refusal f code parameter kind values n i after (Writing.judging s h (Writing.writing l k p)) = puts_refused _ n i after p

  pub end_refusal : (n i : ℕ) (after : List ℕ) → WritesEnd bytes start (refuses n i) after → after ≡ bytes
  end_refusal n i after (Writing.outside p) = refl
  end_refusal n i after (Writing.writing s p) = puts_refused _ n i after p

module _ (bytes : List ℕ) (start stop : ℕ) (f : Family) (kind : ℕ) (old new : List ℤ) where
  pub reader_refusal : (n p : ℕ) → Reads bytes start stop f kind old (refuses n p) new → new ≡ old
  reader_refusal n p h = h.list

  -- the lent list keeps its length, whatever comes back
  pub reader_length : (x : Outcome Item) → Reads bytes start stop f kind old x new → length new ≡ length old
  reader_length x h = ap length h.list ∙ go x h.answer
    where
      go : (x : Outcome Item) → Reading.Entry bytes start stop f kind (λ t. Reader (record { wanted = This t; room = length old }) stop (window bytes start stop)) x → length (filled old x) ≡ length old
      go x (Reading.outside p) = refl
      go x (Reading.stranger s p) = refl
      go x (Reading.reading s t k (Reading.ends e p)) = refl
      go x (Reading.reading s t k (Reading.lists {a = a} l p)) =
          let room = (ok_valid (record { wanted = This t; room = length old }) a l.valid).2 in
          length-append a.values (drop (length a.values) old) ∙ ap (λ (m : ℕ). length a.values + m) (length-drop (length a.values) old) ∙ omega arith
      go x (Reading.reading s t k (Reading.fails u m n p)) = refl

-- ---- "5 to 10 from a reader [tells] the bit where the failing field starts": it lies between start and stop, and what stands from
-- there up to the stop is what the reader had left

pub told_between : (bytes : List ℕ) (start stop : ℕ) → Span bytes start stop → (q : Asked) (n : ℕ) (u : List Bool) → (record_for q).no (window bytes start stop) n u → Between bytes start stop u
told_between bytes start stop span q n u h =
    let (x, e) = (record_sound q).within h in
    let w : List Bool = take stop (bits_of bytes) in
    let a = span.order in
    let b = span.inside in
    let l : length (window bytes start stop) ≡ stop - start = length-drop start w ∙ ap (λ (m : ℕ). m - start) (length-take stop (bits_of bytes)) ∙ simp length_bits_of (omega arith) in
    let k : length x + length u ≡ stop - start = sym (length-append x u) ∙ sym (ap length e) ∙ l in
    let p : told_bit stop u ≡ start + length x = omega arith in
    record {
      low = omega arith;
      high = omega arith;
      left = ap (λ (m : ℕ). window bytes m stop) p ∙ sym (drop-drop (length x) start w) ∙ ap (drop (length x)) e ∙ drop_at x u (length x) refl;
    }

-- so wherever a refusal comes from the fields, and is neither 12 nor the 7 of an asked kind that is not the entry's
pub refused_between : (bytes : List ℕ) (start stop : ℕ) (f : Family) (kind : ℕ) (t : Kind) (old new : List ℤ) (n p : ℕ) → (n ≡ 12 → ⊥) → Told f kind t
    → Reads bytes start stop f kind old (refuses n p) new → (start ≤ p) × (p ≤ stop)
refused_between bytes start stop f kind t old new n p other told h = go n p other h.answer
  where
    go : (n p : ℕ) → (n ≡ 12 → ⊥) → Reading.Entry bytes start stop f kind (λ t. Reader (record { wanted = This t; room = length old }) stop (window bytes start stop)) (refuses n p) → (start ≤ p) × (p ≤ stop)
    go n p other (Reading.outside q) = absurd (other refl)
    go n p other (Reading.stranger s q) = absurd (q t told)
    go n p other (Reading.reading s v k (Reading.fails u m no_record e)) =
        let b = told_between bytes start stop s (record { wanted = This v; room = length old }) n u no_record in
        (subst (λ (i : ℕ). start ≤ i) (sym e) b.low, subst (λ (i : ℕ). i ≤ stop) (sym e) b.high)

-- ---- "10: an instant above 4,294,967,294, or the word 1 in kind 2": the words that stand for no value. After the instant p the word w
-- stands for p + w - 1

pub ten_exactly : (t : Kind) (p : ℤ) (w : ℕ) → Word w → ((v : ℤ) → Fits t p v → word_of t p v ≡ w → ⊥) ↔ NoValue t p w
ten_exactly Plain p w h = (λ none. none (pos w) (h, tt) refl, λ z v f e. z)
ten_exactly Instants p w h = (λ none. above none (dec_le (natural p + w) (largest_instant + 1)), over)
  where
    above : ((v : ℤ) → Fits Instants p v → word_of Instants p v ≡ w → ⊥) → Dec (natural p + w ≤ largest_instant + 1) → NoValue Instants p w
    above none (yes m) = let b = h.0 in absurd (none (pos (natural p + w - 1)) (omega arith, omega arith) (omega arith))
    above none (no m) = omega arith

    over : NoValue Instants p w → (v : ℤ) → Fits Instants p v → word_of Instants p v ≡ w → ⊥
    over z (pos n) f e = let a = f.0 in let b = f.1 in omega arith
    over z (negsuc n) f e = f.0
ten_exactly Corrections p w h = (λ none. one none (ℕ_discrete (w % 2) 0) (dec_le 3 w), first)
  where
    one : ((v : ℤ) → Fits Corrections p v → word_of Corrections p v ≡ w → ⊥) → Dec (w % 2 ≡ 0) → Dec (3 ≤ w) → w ≡ 1
    one none (yes m) l = let b = h.0 in let c = h.1 in absurd (none (pos (w / 2)) ((omega arith, omega arith), tt) (omega arith))
    one none (no m) (yes l) = let c = h.1 in absurd (none (negsuc ((w - 3) / 2)) (omega arith, tt) (omega arith))
    one none (no m) (no l) = let b = h.0 in omega arith

    first : w ≡ 1 → (v : ℤ) → Fits Corrections p v → word_of Corrections p v ≡ w → ⊥
    first z (pos n) f e = omega arith
    first z (negsuc n) f e = omega arith

-- ---- which numbers a reader answers with

module _ (P : ℕ → Type 0) (six : P 6) (nine : P 9) where
  words_answer : P 10 → (image : ℕ → List Bool) (t : Kind) (n : ℕ) → Answers P (words_by image t n)
  words_answer ten image t n =
      chain_answers P (λ p. only 10 (Fits t p) (word_of t p) (word Word image)) (λ p. only_answers P 10 (Fits t p) (word_of t p) (word Word image) ten (word_answers P Word image six nine)) n (pos 0)

  offset_answers : (base possible : ℕ) → Answers P (offset base possible)
  offset_answers base possible = only_answers P 9 (λ s. (base ≤ s) × (s < base + possible)) (λ s. s - base) (fixed (width possible)) nine (fixed_answers P (width possible) six)

  parts_answer : (turns n low hi : ℕ) → Answers P (part_in turns n low hi)
  parts_answer zero n low hi = known_answers P {A = List ℕ} []
  parts_answer (suc turns) zero low hi = known_answers P {A = List ℕ} []
  parts_answer (suc turns) (suc d) low hi =
      bind_answers P (offset (low + d / 2) (hi - low - d + 1)) (λ s. bind (part_in turns (d / 2) low (s - 1)) (λ _. part_in turns (d - d / 2) (s + 1) hi)) (offset_answers (low + d / 2) (hi - low - d + 1))
      (λ s h. bind_answers P (part_in turns (d / 2) low (s - 1)) (λ _. part_in turns (d - d / 2) (s + 1) hi) (parts_answer turns (d / 2) low (s - 1)) (λ _ k. parts_answer turns (d - d / 2) (s + 1) hi))

  part_answers : (n low hi : ℕ) → Answers P (part n low hi)
  unfolding part
  part_answers n low hi = parts_answer n n low hi

  interpolative_answers : (n : ℕ) → Answers P (interpolative n)
  interpolative_answers zero = known_answers P {A = List ℕ} []
  interpolative_answers (suc d) =
      bind_answers P (made (λ t. Unit {0}) (λ t. t + 1) (word Word delta)) (λ t. part d 1 (t + suc d - 1)) (word_answers P Word delta six nine) (λ t h. part_answers d 1 (t + suc d - 1))

  body_answers : P 10 → (c : Code) (k : ℕ) (t : Kind) (n : ℕ) → Answers P (body c k t n)
  body_answers ten Gamma k t n = words_answer ten gamma t n
  body_answers ten Delta k t n = words_answer ten delta t n
  body_answers ten Rice k t n = words_answer ten (rice k) t n
  body_answers ten VariableByte k t n = words_answer ten variable_byte t n
  body_answers ten Interpolative k t n = interpolative_answers n

  parameter_answers : (c : Code) → Answers P (parameter_field c)
  parameter_answers Gamma = known_answers P {A = ℕ} 0
  parameter_answers Delta = known_answers P {A = ℕ} 0
  parameter_answers Rice = fixed_answers P 5 six
  parameter_answers VariableByte = known_answers P {A = ℕ} 0
  parameter_answers Interpolative = known_answers P {A = ℕ} 0

  -- of a count no more than the longest list's length
  small_answers : P 8 → Answers P (only 8 (λ (n : ℕ). n ≤ longest_list) (λ n. n + 1) (word Word gamma))
  small_answers eight = only_answers P 8 (λ n. n ≤ longest_list) (λ n. n + 1) (word Word gamma) eight (word_answers P Word gamma six nine)

  record_answers : P 7 → P 10 → (q : Asked) → Answers P (count_field q.room) → Answers P (record_for q)
  unfolding record_for
  record_answers seven ten q count =
      bind_answers P code_field _ (only_answers P 7 (λ c. Unit {0}) code_number (fixed 4) seven (fixed_answers P 4 six)) (λ c hc.
      bind_answers P (kind_field q.wanted c) _ (only_answers P 7 _ kind_number (fixed 2) seven (fixed_answers P 2 six)) (λ t ht.
      bind_answers P (parameter_field c) _ (parameter_answers c) (λ k hk.
      bind_answers P (count_field q.room) (λ n. body c k t n) count (λ n hn. body_answers ten c k t n))))

-- a number of the table that is a reader's
pub from_the_table : (q : Asked) (w : List Bool) (n : ℕ) (u : List Bool) → (record_for q).no w n u → (5 ≤ n) × (n ≤ 10)
from_the_table q =
    let P : ℕ → Type 0 = λ n. (5 ≤ n) × (n ≤ 10) in
    record_answers P (omega arith) (omega arith) (omega arith) (omega arith) q
    (only_answers P 5 (λ n. n ≤ q.room) (λ n. n) (only 8 (λ n. n ≤ longest_list) (λ n. n + 1) (word Word gamma)) (omega arith) (small_answers P (omega arith) (omega arith) (omega arith)))

-- "without 5": where there is room for the longest list
pub without_five : (q : Asked) (w : List Bool) (u : List Bool) → longest_list ≤ q.room → (record_for q).no w 5 u → ⊥
without_five q w u room h =
    let P : ℕ → Type 0 = λ n. n ≡ 5 → ⊥ in
    record_answers P (omega arith) (omega arith) (omega arith) (omega arith) q
    (only_never P 5 (λ n. n ≤ q.room) (λ n. n) (only 8 (λ n. n ≤ longest_list) (λ n. n + 1) (word Word gamma)) (λ a k. (a, le_trans k.0 room, refl)) (small_answers P (omega arith) (omega arith) (omega arith)))
    w 5 u h refl

-- code 5 writes no gaps, so no instant of it can pass the largest: 10 is never its answer
pub interpolative_never_ten : (k : ℕ) (t : Kind) (n : ℕ) (w u : List Bool) → (body Interpolative k t n).no w 10 u → ⊥
interpolative_never_ten k t n w u h = interpolative_answers (λ m. m ≡ 10 → ⊥) (omega arith) (omega arith) n w 10 u h refl
