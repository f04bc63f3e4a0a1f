-- The bits of a record: the same whoever asks for it, and never begun as the end mark.
use Rattle.std.specs.Prelude.{◌≡◌, refl, Bool, List, ◌++◌, ◌<◌, length}
use Rattle.std.proofs.Common.{sym, ap, ◌∙◌, append_assoc, arith, length-append}
use Rattle.layout.specs.Bits.{odd, in_bits}
use Rattle.layout.specs.Layout.{Takes, NonEmpty}
use Rattle.layout.proofs.Laws.Bits.{length_in_bits, in_bits_one}
use Rattle.format.specs.Records.{code_number, Record, Asked, record_for}
use Rattle.format.specs.Streams.{end_mark}
use Rattle.format.specs.Reading.{NoEnd}
use Rattle.format.proofs.Laws.Records.{code_range}

mark_is : end_mark ≡ in_bits 4 0
unfolding in_bits odd
mark_is = refl

-- its bits are the same whoever asks
pub record_bits : (p q : Asked) (r : Record) → (record_for p).bits r ≡ (record_for q).bits r
unfolding record_for
record_bits p q r = refl

-- the code stands first
first_field : (q : Asked) (r : Record) → (more : List Bool) × ((record_for q).bits r ≡ in_bits 4 (code_number r.code) ++ more)
unfolding record_for
first_field q r = (_, refl)

pub record_no_end : (q : Asked) (r : Record) (x : List Bool) → NoEnd ((record_for q).bits r ++ x)
record_no_end q r x y e =
    let (more, f) = first_field q r in
    let n = code_range r.code in
    let g : in_bits 4 (code_number r.code) ++ (more ++ x) ≡ in_bits 4 0 ++ y =
    sym (append_assoc (in_bits 4 (code_number r.code)) more x) ∙ ap (λ (l : List Bool). l ++ x) (sym f) ∙ e ∙ ap (λ (l : List Bool). l ++ y) mark_is in
    let (z, h) = (in_bits_one 4 (code_number r.code) 0 (omega arith) (omega arith)).split (more ++ x) y g in
    omega arith

pub takes_no_end : (q : Asked) {w : List Bool} {r : Record} {x : List Bool} → Takes (record_for q) w r x → NoEnd w
takes_no_end q {w} {r} {x} t y e = record_no_end q r x y (sym t.front ∙ e)

-- and none is empty
pub record_some : (q : Asked) (r : Record) → NonEmpty ((record_for q).bits r)
unfolding record_for in_bits
record_some q r = tt

pub takes_shorter : (q : Asked) {w : List Bool} {r : Record} {x : List Bool} → Takes (record_for q) w r x → length x < length w
takes_shorter q {w} {r} {x} t =
    let (more, f) = first_field q r in
    let a = ap length t.front ∙ length-append ((record_for q).bits r) x in
    let b = ap length f ∙ length-append (in_bits 4 (code_number r.code)) more in
    let c = length_in_bits 4 (code_number r.code) in
    omega arith
