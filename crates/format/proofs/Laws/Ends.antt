-- "The end writer writes 0000 and zeros to the byte's end, and tells the bit after the last of them."
use Rattle.std.specs.Prelude.{◌≡◌, Bool, false, List, ℕ, ◌+◌, ◌-◌, length, take, drop}
use Rattle.std.proofs.Common.{ap, ◌∙◌, arith}
use Rattle.std.proofs.lemmas.List.{length-replicate, replicate-append-replicate}
use Rattle.layout.specs.Bits.{bits_of, zeros}
use Rattle.layout.proofs.Laws.Bits.{length_bits_of}
use Rattle.layout.proofs.Laws.Windows.{put_window}
use Rattle.format.specs.Streams.{to_byte_end}
use Rattle.format.specs.Answers.{gives}
use Rattle.format.specs.Writing as Writing
use Rattle.format.specs.Writing.{end_image, WritesEnd}
use Rattle.format.specs.Restated.{EndWritten}

pub end_written : (bytes : List ℕ) (start p : ℕ) (after : List ℕ) → WritesEnd bytes start (gives p) after → EndWritten start p after
end_written bytes start p after (Writing.writing place (Writing.done room b e)) =
    let pad : ℕ = to_byte_end (start + 4) in
    let i = place.inside in
    let n = length_bits_of bytes in
    let z : end_image start ≡ zeros (4 + pad) = replicate-append-replicate 4 pad false in
    let l : length (end_image start) ≡ 4 + pad = ap length z ∙ length-replicate (4 + pad) false in
    let d : 4 + pad ≡ start + length (end_image start) - start = omega arith in
    record {
      whole = omega arith;
      mark = omega arith;
      least = omega arith;
      blank = ap (λ (x : List Bool). drop start (take (start + length (end_image start)) x)) e ∙ put_window (bits_of bytes) start (end_image start) (omega arith) ∙ z ∙ ap zeros d;
    }

-- only one bit is such
pub end_written_one : (start p q : ℕ) (after after' : List ℕ) → EndWritten start p after → EndWritten start q after' → p ≡ q
end_written_one start p q after after' x y = omega (arith, x.whole, x.mark, x.least, y.whole, y.mark, y.least)
