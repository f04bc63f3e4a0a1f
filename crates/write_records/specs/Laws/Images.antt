-- A record's bits are those of its heading, and then those of its body.
use Rattle.std.specs.Prelude.{◌≡◌, refl, Bool, List, ◌++◌, ℕ, ◌+◌, ◌-◌, ◌*◌, ◌^◌, ◌≤◌, ◌<◌, ℤ, length, get_or}
use Rattle.std.proofs.Common.{sym, ap, ap₂, ◌∙◌, subst, append_assoc, le_trans, mul-le-mul_left, arith, pow-add, pow_mono, length-append, Fits}
use Rattle.std.proofs.Math.Arith.{digits_lt}
use Rattle.std.specs.Int.{w8}
use Rattle.layout.specs.Bits.{in_bits, bits_of}
use Rattle.layout.proofs.Laws.Bits.{length_in_bits, in_bits_cat}
use Rattle.format.specs.Limits.{largest_parameter}
use Rattle.format.specs.Codes.{gamma}
use Rattle.format.specs.Kinds.{Kind, Plain, Instants, Corrections, kind_number}
use Rattle.format.specs.Records.{code_number, parameter_field, record_for}
use Rattle.bits.specs.declared.BitPos.{BitPos}
use Rattle.pen.specs.declared.Pen.{Pen}
use Rattle.pen.specs.Pen.{inked, Opened, Drawn}
use Rattle.pen.specs.Laws.Pen.{drawn_both, closed}
use Rattle.pen.specs.Laws.Bytes.{all_bytes}
use Rattle.write_records.specs.Written.{Written}
use Rattle.format.specs.Answers.{refuses, gives}
use Rattle.format.specs.Writing.{Puts, full, done}
use Rattle.headings.specs.declared.Code.{Code}
use Rattle.headings.specs.declared.Code.TheVariants.{Gamma, Delta, Rice, VariableByte, Interpolative}
use Rattle.headings.specs.declared.Heading.{Heading}
use Rattle.headings.specs.Headings.{code_of, carried, carried_width, kind_of}
use Rattle.write_records.specs.Images.{record_image, front, heading_image, body_image}

parameter_bits : (c : Code) → (parameter_field (code_of c)).bits (carried c) ≡ in_bits (carried_width c) (carried c)
unfolding in_bits
parameter_bits Gamma = refl
parameter_bits Delta = refl
parameter_bits (Rice k) = refl
parameter_bits VariableByte = refl
parameter_bits Interpolative = refl

pub record_parts : (h : Heading) (vs : List ℤ) → record_image h vs ≡ heading_image h (length vs) ++ body_image h vs
unfolding record_image record_for front heading_image body_image
record_parts h vs =
    let a = in_bits 4 (code_number (code_of h.code)) in
    let b = in_bits 2 (kind_number (kind_of h.kind)) in
    let p = in_bits (carried_width h.code) (carried h.code) in
    let g = gamma (length vs + 1) in
    let x = body_image h vs in
    ap (λ (l : List Bool). a ++ (b ++ (l ++ (g ++ x)))) (parameter_bits h.code)
    ∙ ap (λ (l : List Bool). a ++ l) (sym (append_assoc b p (g ++ x)))
    ∙ sym (append_assoc a (b ++ p) (g ++ x))
    ∙ sym (append_assoc (a ++ (b ++ p)) g x)

carried_lt : (c : Code) → carried c ≤ largest_parameter → carried c < 2 ^ carried_width c
carried_lt Gamma h = omega arith
carried_lt Delta h = omega arith
carried_lt (Rice k) h = omega arith
carried_lt VariableByte h = omega arith
carried_lt Interpolative h = omega arith

pub kind_small : (t : Kind) → kind_number t ≤ 2
kind_small Plain = omega arith
kind_small Instants = omega arith
kind_small Corrections = omega arith

pub front_number : (h : Heading) (c t w k : ℕ) → c ≡ code_number (code_of h.code) → t ≡ kind_number (kind_of h.kind) → t ≤ 2 → w ≡ 2 ^ carried_width h.code → k ≡ carried h.code
    → carried h.code ≤ largest_parameter → in_bits (6 + carried_width h.code) ((c * 4 + t) * w + k) ≡ front h
unfolding front
front_number h c t w k a b s d e l =
    let p = carried_width h.code in
    let x = carried h.code in
    ap₂ (λ (y z : ℕ). in_bits (6 + p) ((c * 4 + t) * y + z)) d e
    ∙ in_bits_cat 6 p (c * 4 + t) (carried_lt h.code l)
    ∙ ap (λ (y : List Bool). y ++ in_bits p x) (in_bits_cat 4 2 c (omega arith))
    ∙ append_assoc (in_bits 4 c) (in_bits 2 t) (in_bits p x)
    ∙ ap₂ (λ (y z : ℕ). in_bits 4 y ++ (in_bits 2 z ++ in_bits p x)) a b

pub front_lt : (h : Heading) (c t w k : ℕ) → c * 4 + t < 64 → w ≡ 2 ^ carried_width h.code → k ≡ carried h.code → carried h.code ≤ largest_parameter
    → (c * 4 + t) * w + k < 2 ^ (6 + carried_width h.code)
front_lt h c t w k s d e l = rw (d, e, pow-add 2 6 (carried_width h.code)) (digits_lt s (carried_lt h.code l))

pub front_fits : (b p w : ℕ) → b ≤ 22 → p ≡ 2 ^ w → w ≤ 5 → b * p ≤ 704
front_fits b p w h e l = le_trans (mul-le-mul_left b (subst (λ (q : ℕ). q ≤ 32) (sym e) (pow_mono l))) (omega arith)

pub length_front : (h : Heading) → length (front h) ≡ 6 + carried_width h.code
unfolding front
length_front h =
    let e : length (front h) ≡ 4 + (2 + carried_width h.code) = simp (length-append, length_in_bits) in
    omega arith

pub length_heading : (h : Heading) (n : ℕ) → length (heading_image h n) ≡ 6 + carried_width h.code + length (gamma (n + 1))
unfolding heading_image
length_heading h n = length-append (front h) (gamma (n + 1)) ∙ ap (λ (k : ℕ). k + length (gamma (n + 1))) (length_front h)

pub heading_parts : (h : Heading) (n w k : ℕ) → w ≡ carried_width h.code → in_bits (6 + carried_width h.code) k ≡ front h → in_bits (6 + w) k ++ gamma (n + 1) ≡ heading_image h n
unfolding heading_image
heading_parts h n w k e f = ap (λ (l : List Bool). l ++ gamma (n + 1)) (ap (λ (j : ℕ). in_bits (6 + j) k) e ∙ f)

-- ---- written

pub length_record : (h : Heading) (vs : List ℤ) (n : ℕ) → n ≡ length vs → length (record_image h vs) ≡ length (heading_image h n) + length (body_image h vs)
length_record h vs n e =
    ap length (record_parts h vs)
    ∙ length-append (heading_image h (length vs)) (body_image h vs)
    ∙ ap (λ (k : ℕ). length (heading_image h k) + length (body_image h vs)) (sym e)

-- the heading, and the body where the heading ends, with a pen that is opened before them and closed after
pub record_written : {before middle half after : List ℕ} {at end : BitPos} {pen next last : Pen} (h : Heading) (vs : List ℤ) (n : ℕ) → n ≡ length vs → Opened before at pen
    → Drawn (heading_image h n) before pen middle next → Drawn (body_image h vs) middle next half last → bits_of after ≡ inked half last → end.0 ≡ last.at.0
    → Written (record_image h vs) before at after end
record_written h vs n e o a b c d =
    let f = ap (λ (k : ℕ). heading_image h k ++ body_image h vs) e ∙ sym (record_parts h vs) in
    let x = closed o (drawn_both o.within f a b) c in
    record { bits = x.0; told = d ∙ x.1 }

-- ---- put where there is room: the bits that are left were compared with those that were counted

module _ {new : List Bool} {before : List ℕ} {at : BitPos} {bit count : ℕ} (e : bit ≡ at.0) (n : count ≡ length new) where
  pub puts_full : 8 * length before - bit < count → Puts before at.0 new (refuses 5 0) before
  puts_full less = full (omega arith)

  pub puts_done : {after : List ℕ} {next : BitPos} → count ≤ 8 * length before - bit → Written new before at after next → ((i : ℕ) → Fits w8 (get_or after i 0)) → Puts before at.0 new (gives next.0) after
  puts_done {after} enough w b = subst (λ (k : ℕ). Puts before at.0 new (gives k) after) (sym w.told) (done (omega arith) (all_bytes after b) w.bits)
