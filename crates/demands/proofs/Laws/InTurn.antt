-- Records written in turn, by calls that succeed: demand 3 of the functions, from the entries' contracts alone.
use Rattle.std.specs.Prelude.{◌≡◌, refl, Bool, List, [], ◌∷◌, ◌++◌, ℕ, suc, ◌+◌, ◌*◌, ◌≤◌, length, take, drop}
use Rattle.std.proofs.Common.{sym, ap, ◌∙◌, subst, le_refl, arith, length-append}
use Rattle.std.proofs.Math.Seq.{slice_empty}
use Rattle.layout.specs.Bits.{bits_of, put, window}
use Rattle.layout.specs.Layout.{row, All}
use Rattle.layout.proofs.Laws.Bits.{length_bits_of}
use Rattle.layout.proofs.Laws.Windows.{put_nil, put_both, put_window}
use Rattle.format.specs.Records.{Rice, Record, Valid, any_record}
use Rattle.format.specs.Answers.{gives, Told}
use Rattle.format.specs.Writing.{Writes}
use Rattle.format.specs.Restated.{Holds, WrittenBits}
use Rattle.format.proofs.Laws.Records.{code_one}
use Rattle.format.proofs.Laws.Outcomes.{reads_accepted}
use Rattle.format.proofs.Laws.Round.{written_bits, reads_back}
use Rattle.format.proofs.Laws.Demand3.{first_records}
use Rattle.demands.specs.Calls.{Call, WrittenInTurn, none, then, SameRecord, FirstOf, BeginsWith}

-- ---- the records that calls ask for, and the bits that they leave

pub record Asks (q : Call) (r : Record) : Type 0 where
  pub holds : Holds r q.code q.parameter q.kind q.values
  pub valid : Valid r
  pub told : Told q.family q.kind r.kind

abbrev pub AskInTurn : List Call → List Record → Type 0
AskInTurn [] [] = Unit {0}
AskInTurn [] (r ∷ rs) = ⊥
AskInTurn (q ∷ qs) [] = ⊥
AskInTurn (q ∷ qs) (r ∷ rs) = Asks q r × AskInTurn qs rs

pub record InARow (qs : List Call) (bytes : List ℕ) (start : ℕ) (after : List ℕ) (next : ℕ) : Type 0 where
  pub rs : List Record
  pub asked : AskInTurn qs rs
  pub told : next ≡ start + length (row any_record rs)
  pub left : bits_of after ≡ put (bits_of bytes) start (row any_record rs)
  pub size : length after ≡ length bytes
  pub inside : start ≤ 8 * length bytes → next ≤ 8 * length bytes

-- a call alone
pub record Leaves (q : Call) (bytes : List ℕ) (start p : ℕ) (after : List ℕ) : Type 0 where
  pub r : Record
  pub asks : Asks q r
  pub bits : WrittenBits bytes start r p after

pub leaves : (q : Call) (bytes : List ℕ) (start p : ℕ) (after : List ℕ) → Writes bytes start q.family q.code q.parameter q.kind q.values (gives p) after → Leaves q bytes start p after
leaves q bytes start p after w =
    let b = reads_back bytes start q.family q.code q.parameter q.kind q.values p after q.values w (le_refl _) in
    let a = reads_accepted after start p q.family q.kind q.values b.entry p _ b.reads in
    record {
      r = b.entry;
      asks = record { holds = b.holds; valid = b.valid; told = a.told };
      bits = written_bits bytes start q.family q.code q.parameter q.kind q.values p after w b.entry b.holds;
    }

pub in_a_row : {qs : List Call} {bytes after : List ℕ} {start next : ℕ} → WrittenInTurn qs bytes start after next → InARow qs bytes start after next
in_a_row {bytes = bytes} {start = start} none = record { rs = []; asked = tt; told = omega arith; left = sym (put_nil (bits_of bytes) start); size = refl; inside = λ h. h }
in_a_row {bytes = bytes} {after = after} {start = start} {next = next} (then {q = q} {middle = middle} p w more) =
    let one = leaves q bytes start p.0 middle w in
    let rest = in_a_row more in
    let image : List Bool = any_record.bits one.r in
    let told = one.bits.told in
    let size = one.bits.size in
    let inside = one.bits.inside in
    let after-all = rest.inside in
    let n = length_bits_of bytes in
    let all_told = rest.told in
    let lengths = length-append image (row any_record rest.rs) in
    record {
      rs = one.r ∷ rest.rs;
      asked = (one.asks, rest.asked);
      told = omega arith;
      left = put_both (bits_of bytes) image (row any_record rest.rs) start (length image) (omega arith) refl one.bits.left
          (rest.left ∙ ap (λ (k : ℕ). put (bits_of middle) k (row any_record rest.rs)) told);
      size = rest.size ∙ size;
      inside = λ h. let k = after-all (omega arith) in omega arith;
    }

pub all_valid : (qs : List Call) (rs : List Record) → AskInTurn qs rs → All Valid rs
all_valid [] [] a = tt
all_valid [] (r ∷ rs) a = absurd a
all_valid (q ∷ qs) [] a = absurd a
all_valid (q ∷ qs) (r ∷ rs) a = (a.0.valid, all_valid qs rs a.1)

-- they stand where they were written
row_stands : {qs : List Call} {bytes after : List ℕ} {start next : ℕ} → WrittenInTurn qs bytes start after next → (w : InARow qs bytes start after next) → window after start next ≡ row any_record w.rs
row_stands {bytes = bytes} {after = after} {start = start} none w = empty w.rs w.asked
  where
    empty : (rs : List Record) → AskInTurn [] rs → window after start start ≡ row any_record rs
    empty [] a = slice_empty start (bits_of after)
    empty (r ∷ rs) a = absurd a
row_stands {bytes = bytes} {after = after} {start = start} {next = next} (then {q = q} {middle = middle} p c more) w =
    let one = leaves q bytes start p.0 middle c in
    let told = one.bits.told in
    let i = one.bits.inside in
    let inside = w.inside in
    let last = inside (omega arith) in
    let all_told = w.told in
    let n = length_bits_of bytes in
    let image : List Bool = row any_record w.rs in
    ap (λ (k : ℕ). window after start k) w.told ∙ ap (λ (l : List Bool). drop start (take (start + length image) l)) w.left ∙ put_window (bits_of bytes) start image (omega arith)

-- ---- demand 3 of the functions, both families mixed

same_record : {q q' : Call} {r : Record} → Asks q r → Asks q' r → SameRecord q q'
same_record {q} {q'} {r} a b =
    record {
      code = sym a.holds.code_is ∙ b.holds.code_is;
      kind = sym a.holds.kind_is ∙ b.holds.kind_is;
      parameter = λ e. let rice : r.code ≡ Rice = code_one r.code Rice (a.holds.code_is ∙ e) in sym (a.holds.parameter_is.0 rice) ∙ b.holds.parameter_is.0 rice;
      values = sym a.holds.values_are ∙ b.holds.values_are;
    }

first_of : (qs ss : List Call) (rs more : List Record) → AskInTurn qs rs → AskInTurn ss (rs ++ more) → FirstOf qs ss
first_of [] ss rs more a b = tt
first_of (q ∷ qs) ss [] more a b = absurd a
first_of (q ∷ qs) [] (r ∷ rs) more a b = absurd b
first_of (q ∷ qs) (s ∷ ss) (r ∷ rs) more a b = (same_record a.0 b.0, first_of qs ss rs more a.1 b.1)

begins_with : (qs ss : List Call) → FirstOf qs ss → BeginsWith qs ss
begins_with [] ss f = record { first = []; more = ss; whole = refl; as_many = refl; same = tt }
begins_with (q ∷ qs) [] f = absurd f
begins_with (q ∷ qs) (s ∷ ss) f =
    let b = begins_with qs ss f.1 in
    record { first = s ∷ b.first; more = b.more; whole = ap (λ (l : List Call). s ∷ l) b.whole; as_many = ap suc b.as_many; same = (f.0, b.same) }

-- and back: nothing of it can be left out
pub begins_first : {qs ss : List Call} → BeginsWith qs ss → FirstOf qs ss × (length qs ≤ length ss)
begins_first {qs} {ss} b =
    let long = length-append b.first b.more in
    let many = b.as_many in
    (subst (FirstOf qs) (sym b.whole) (first_more qs b.first b.more b.same), subst (λ (l : List Call). length qs ≤ length l) (sym b.whole) (omega arith))
  where
    first_more : (qs first more : List Call) → FirstOf qs first → FirstOf qs (first ++ more)
    first_more [] first more f = tt
    first_more (q ∷ qs) [] more f = absurd f
    first_more (q ∷ qs) (s ∷ first) more f = (f.0, first_more qs first more f.1)

-- "If the bits of the first sequence are the beginning of the bits of the second, then the records of the first are the first records of
-- the second, in code, kind, parameter, number, order and every value."
pub written_first : {qs ss : List Call} {bytes bytes' after after' : List ℕ} {start start' next next' : ℕ} → WrittenInTurn qs bytes start after next → WrittenInTurn ss bytes' start' after' next'
    → (x : List Bool) → window after' start' next' ≡ window after start next ++ x → BeginsWith qs ss
written_first {qs} {ss} v w x e =
    let a = in_a_row v in
    let b = in_a_row w in
    let f : row any_record b.rs ≡ row any_record a.rs ++ x = sym (row_stands w b) ∙ e ∙ ap (λ (l : List Bool). l ++ x) (row_stands v a) in
    let (more, g) = first_records a.rs b.rs x (all_valid qs a.rs a.asked) (all_valid ss b.rs b.asked) f in
    begins_with qs ss (first_of qs ss a.rs more a.asked (subst (AskInTurn ss) g b.asked))
